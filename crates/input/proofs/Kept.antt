-- Parts of a line, as far as they are kept. Assumes nothing.
use Rattle.std.proofs.Common.{◌≡◌, ◌≢◌, ℕ, ◌+◌, ◌-◌, ◌<◌, ◌≤◌, min, Bool, true, false, cond, List, [], ◌∷◌, ◌++◌, All, length, take, Some, None, Option, Ok, Err, Result, IfSome, OnSome, OnOk, MatchBool, is_ok, eqb, get_or, ◌⊎◌, inl, inr, sym, refl, ap, subst, ◌∙◌, ⊎_elim, take_all, arith}
use Rattle.std.proofs.Math.Seq.{take-append-add}
use Rattle.std.proofs.lemmas.Bool.{cases_lt, eq-eqb, eqb-true}
use Rattle.std.proofs.lemmas.Bool.Decides.{nat_tests}
use Rattle.std.proofs.lemmas.Option.{IfSome_then}
use Rattle.std.proofs.lemmas.List.{length-take, take_min, length-take-le, take-take, take-append-le, get_or-take}
use Rattle.std.proofs.lemmas.List.Elements.{All-take, All-append, All-more}
use Rattle.std.proofs.BufReadLemmas.{Consumes_through, take_through-nil, take_through_nonempty, zero_unless_positive}
use Rattle.std.proofs.KnownBytes.{Consumes-trans}
use Rattle.std.proofs.Transfers.{StopsAt-append}
use Rattle.std.specs.Io.{StopsAt, IsEmptyOrEndsWith}
use Rattle.std.specs.Io.BufRead.{take_through, strip_last, ends_with_byte, DropsThrough}
use Rattle.std.specs.Io.KnownBytes.{Consumes, IsAtEnd}
use Rattle.input.specs.Line.{most, kept, kept_line, IsPart}

-- as many as there is room for
room : (n : ℕ) (a b : List ℕ) → length a ≤ n → take n (a ++ b) ≡ a ++ take (n - length a) b
room n a b h =
    let all : n ≡ length a + (n - length a) = omega arith in
    ap (λ k. take k (a ++ b)) all ∙ take-append-add a b (n - length a)

pub part_kept : {T E : Type 0} (r : Result T E) (was part is : List ℕ) (k : ℕ) → is ≡ cond (is_ok r) (was ++ take k part) was → k ≡ min (most - length was) (length part) → OnOk r (length was ≤ most → is ≡ take most (was ++ part))
part_kept (Ok x) was part is k e size = λ fits. e ∙ ap (λ l. was ++ l) (ap (λ n. take n part) size ∙ take_min (most - length was) part) ∙ sym (room most was part fits)
part_kept (Err x) was part is k e size = tt

-- what is kept of a line and its next part is what is kept of both
pub kept_more : (n : ℕ) (a b : List ℕ) → take n (take n a ++ b) ≡ take n (a ++ b)
kept_more n a b =
    ⊎_elim
    (λ short. ap (λ l. take n (l ++ b)) (take_all n a (omega arith)))
    (λ long.
    let full = length-take-le n a (omega arith) in
    take-append-le n (take n a) b (omega arith) ∙ take-take n n a (omega arith) ∙ sym (take-append-le n a b (omega arith)))
    (cases_lt (length a) n)

pub kept_fits : (n : ℕ) (a l : List ℕ) → l ≡ take n a → length l ≤ n
kept_fits n a l e = let size = ap length e ∙ length-take n a in omega arith

pub stops_kept : (n : ℕ) (xs : List ℕ) → StopsAt xs 10 → StopsAt (take n xs) 10
stops_kept n xs stops =
    let size = length-take n xs in
    let last = length (take n xs) - 1 in
    subst (All (λ b. b ≢ 10)) (take-take last (length xs - 1) xs (omega arith) ∙ sym (take-take last n xs (omega arith))) (All-take (λ b. b ≢ 10) last (take (length xs - 1) xs) stops)

-- the bytes shown through the first line feed, where it is told whether they end there
pub shown_part : (shown : List ℕ) (n : ℕ) (done : Bool) (was is : Option (List ℕ)) → n ≤ length shown → (0 < length shown → 0 < n) → All (λ b. b ≢ 10) (take (n - 1) shown) → (length shown ≡ 0 → OnSome was (IsAtEnd is)) → ((n ≡ 0) × (done ≡ true)) ⊎ ((n ≢ 0) × (done ≡ eqb (get_or shown (n - 1) 0) 10)) → MatchBool done (IsEmptyOrEndsWith (take n shown) 10 × (length (take n shown) ≡ 0 → OnSome was (IsAtEnd is))) (All (λ b. b ≢ 10) (take n shown))
shown_part shown n true was is within some before end told =
    let size = length-take-le n shown within in (
      λ any. elim told [
        | inl none ↦ absurd (omega (arith, none.0))
        | inr more ↦ ap (λ k. get_or (take n shown) (k - 1) 0) size ∙ get_or-take n shown (n - 1) 0 (omega (arith, more.0)) ∙ eqb-true _ 10 (sym more.1)
      ],
      λ none. end (zero_unless_positive _ n some (sym size ∙ none)),
    )
shown_part shown n false was is within some before end told =
    elim told [
      | inl none ↦ cc none.1
      | inr more ↦ subst (λ k. All (λ b. b ≢ 10) (take k shown)) (omega (arith, more.0)) (All-more (λ b. b ≢ 10) _ (n - 1) 0 (omega (arith, more.0)) before (λ e. cc (more.1 ∙ eq-eqb _ 10 e)))
    ]

-- what is read of a line once its last part is taken
abbrev pub IsRead : Option (List ℕ) → Option (List ℕ) → List ℕ → Type 0
IsRead was is line = (whole : List ℕ) × (line ≡ take most whole) × StopsAt whole 10 × IfSome was (λ xs. whole ≡ take_through 10 xs) × DropsThrough was is 10

module _ (was mid is : Option (List ℕ)) (bs part line new : List ℕ) (taken : Consumes was mid bs) (free : All (λ b. b ≢ 10) bs) (held : line ≡ take most bs) (longer : new ≡ take most (line ++ part)) where
  both : new ≡ take most (bs ++ part)
  both = longer ∙ ap (λ l. take most (l ++ part)) held ∙ kept_more most bs part

  pub more_read : (done : Bool) → done ≡ false → IsPart done part mid is → (xs : List ℕ) × Consumes was is xs × All (λ b. b ≢ 10) xs × (new ≡ take most xs)
  more_read done e h =
      let rest = subst (λ d. IsPart d part mid is) e h in
      (bs ++ part, Consumes-trans was mid is bs part taken rest.0, All-append (λ b. b ≢ 10) bs part free rest.2, both)

  pub all_read : (done : Bool) → done ≡ true → IsPart done part mid is → IsRead was is new
  all_read done e h =
      let last = subst (λ d. IsPart d part mid is) e h in
      let known = Consumes_through 10 was mid is bs part taken free last.0 last.1 last.2.0 last.2.1 in
      (bs ++ part, both, StopsAt-append bs part 10 free last.1, known.0, known.1)

known_line : (was : Option (List ℕ)) (whole line : List ℕ) → line ≡ take most whole → IfSome was (λ xs. whole ≡ take_through 10 xs) → IfSome was (λ xs. (line ≡ kept xs) × MatchBool (eqb (length line) 0) (length xs ≡ 0) (0 < length xs))
unfolding kept
known_line None whole line held known = tt
known_line (Some xs) whole line held known = (is, by (eqb (length line) 0) refl)
  where
    is : line ≡ take most (take_through 10 xs)
    is = held ∙ ap (take most) known

    size : length line ≡ min most (length (take_through 10 xs))
    size = ap length is ∙ length-take most (take_through 10 xs)

    by : (empty : Bool) → empty ≡ eqb (length line) 0 → MatchBool empty (length xs ≡ 0) (0 < length xs)
    by true e = ap length (take_through-nil 10 xs (grind (arith, nat_tests, size, e)))
    by false e = take_through_nonempty 10 xs (grind (arith, nat_tests, size, e))

module _ (was is : Option (List ℕ)) (line : List ℕ) (h : IsRead was is line) where
  pub read_short : length line ≤ most
  read_short = kept_fits most h.0 line h.1

  pub read_one : StopsAt line 10
  read_one = subst (λ l. StopsAt l 10) (sym h.1) (stops_kept most h.0 h.2)

  pub read_known : IfSome was (λ xs. (line ≡ kept xs) × MatchBool (eqb (length line) 0) (length xs ≡ 0) (0 < length xs))
  read_known = known_line was h.0 line h.1 h.3

-- without the line feed
stripped : (xs : List ℕ) (r : Bool) → r ≡ ends_with_byte 10 xs → StopsAt xs 10 → All (λ b. b ≢ 10) (cond r (take (length xs - 1) xs) xs) × (length (cond r (take (length xs - 1) xs) xs) ≤ length xs)
stripped xs true e stops = let size = length-take (length xs - 1) xs in (stops, omega arith)
stripped xs false e stops = (no_feed xs e stops, omega arith)
  where
    no_feed : (xs : List ℕ) → false ≡ ends_with_byte 10 xs → StopsAt xs 10 → All (λ b. b ≢ 10) xs
    no_feed [] e stops = stops
    no_feed (x ∷ xs) e stops =
        let last = length (x ∷ xs) - 1 in
        let other : get_or (x ∷ xs) last 0 ≢ 10 = grind (arith, nat_tests) in
        subst (All (λ b. b ≢ 10)) (take_all (last + 1) (x ∷ xs) (omega arith)) (All-more (λ b. b ≢ 10) (x ∷ xs) last 0 (omega arith) stops other)

pub stripped_line : (xs : List ℕ) → StopsAt xs 10 → All (λ b. b ≢ 10) (strip_last 10 xs) × (length (strip_last 10 xs) ≤ length xs)
stripped_line xs stops = stripped xs _ refl stops

-- a line where one is left
pub next_known : (was : Option (List ℕ)) (line : List ℕ) → IfSome was (λ xs. (line ≡ kept xs) × MatchBool (eqb (length line) 0) (length xs ≡ 0) (0 < length xs)) → (next : List ℕ) → eqb (length line) 0 ≡ false → next ≡ strip_last 10 line → IfSome was (λ xs. (0 < length xs) × (next ≡ kept_line xs))
next_known was line h next e f = IfSome_then was h (λ xs p. (subst (λ b. MatchBool b (length xs ≡ 0) (0 < length xs)) e p.1, f ∙ ap (strip_last 10) p.0))
