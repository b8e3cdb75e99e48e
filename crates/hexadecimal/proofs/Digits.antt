-- Digits of bytes, and bytes of digits. Assumes nothing.
use Rattle.std.proofs.Common.{◌≡◌, ℕ, ◌+◌, ◌-◌, ◌*◌, ◌/◌, ◌%◌, ◌<◌, ◌≤◌, zero, suc, Bool, true, false, ◌&&◌, eqb, List, [], ◌∷◌, ◌++◌, length, slice_index, take, replicate, Some, None, is_some, Ok, Err, Option, Result, sym, refl, ap, ◌∙◌, subst, ◌⊎◌, inl, inr, ⊎_elim, length-append, append-nil, arith}
use Rattle.std.proofs.lemmas.List.{get_or_past, length-replicate, take_at, take_all, drop_at, drop_all}
use Rattle.std.proofs.lemmas.Bool.{and_parts, eqb-true, lt-ltb, le-ltb, cases_lt, cases_eq}
use Rattle.std.proofs.lemmas.Bool.Decides.{nat_tests}
use Rattle.std.specs.Char.{is_ascii_hexdigit}
use Rattle.std.specs.List.{list_all}
use Rattle.std.specs.Str.{IsAscii}
use borrow.Rule.Slice.PartMut.{post_of}
use Rattle.hex.specs.declared.error.FromHexError.{FromHexError}
use Rattle.hex.specs.declared.error.FromHexError.TheVariants.{OutOfMemory}
use Rattle.hex.proofs.HexLemmas.{decode_of-even, decode_of-odd, decode_of-ok, decode_of-err, decode_pairs-err}
use Rattle.hex.specs.Hex.{IsBytes, encode_with, encode_lower, lower_digits, hex_digit_value, pair_value, value_at, digit_or_error, decode_pairs, decode_of, ◌>>=◌}
use Rattle.hexadecimal.specs.Hex.{hex_digit, hex_value, hex_of, joined, byte_of, before, bytes_of, ReadsBack}
use Rattle.hexadecimal.specs.Unhexed.{Told, refusal_of}

-- printing: the library's digits against ours
same_to : ℕ → Bool
same_to zero = true
same_to (suc n) = eqb (slice_index lower_digits n) (hex_digit n) && same_to n

same_below : (k n : ℕ) → same_to k ≡ true → n < k → slice_index lower_digits n ≡ hex_digit n
unfolding same_to
same_below zero n h lt = absurd (omega arith)
same_below (suc k) n h lt =
    let parts = and_parts (eqb (slice_index lower_digits k) (hex_digit k)) (same_to k) h in
    elim (cases_lt n k) [
      | inl below ↦ same_below k n parts.1 below
      | inr top ↦
          let e : n ≡ k = omega arith in
          rw e (eqb-true (slice_index lower_digits k) (hex_digit k) parts.0)
    ]

same_digit : (n : ℕ) → n < 16 → slice_index lower_digits n ≡ hex_digit n
unfolding same_to
same_digit n = same_below 16 n refl

digit_ascii : (n : ℕ) → n < 16 → hex_digit n < 128
digit_ascii n h = grind (arith, nat_tests)

pub lower_ascii : IsAscii lower_digits
lower_ascii i = elim (cases_lt i 16) [
  | inl digit ↦ rw (same_digit i digit) (digit_ascii i digit)
  | inr past ↦ rw (get_or_past lower_digits i 0 past) (omega arith)
]

pub lower_is_hex : (bs : List ℕ) → IsBytes bs → encode_lower bs ≡ hex_of bs
unfolding encode_with hex_of
lower_is_hex [] small = refl
lower_is_hex (b ∷ bs) small =
    let fits : b < 256 = small 0 in
    ap (λ d. d ∷ slice_index lower_digits (b % 16) ∷ encode_lower bs) (same_digit (b / 16) (omega arith))
    ∙ ap (λ d. hex_digit (b / 16) ∷ d ∷ encode_lower bs) (same_digit (b % 16) (omega arith))
    ∙ ap (λ l. hex_digit (b / 16) ∷ hex_digit (b % 16) ∷ l) (lower_is_hex bs (λ i. small (suc i)))

pub hex_in_parts : (xs ys : List ℕ) → hex_of (xs ++ ys) ≡ hex_of xs ++ hex_of ys
unfolding hex_of
hex_in_parts [] ys = refl
hex_in_parts (x ∷ xs) ys = ap (λ l. hex_digit (x / 16) ∷ hex_digit (x % 16) ∷ l) (hex_in_parts xs ys)

-- a vector that grew by zeros, with a text in their place
over_zeros : (old zeros text rest : List ℕ) (n : ℕ) → length text ≡ length zeros → n ≡ length old + length text
    → take n ((take (length old) (old ++ zeros) ++ (text ++ post_of (length old) (length (old ++ zeros) - length old) (old ++ zeros))) ++ rest) ≡ old ++ text
over_zeros old zeros text rest n same e =
    let long = length-append old zeros in
    rw (take_at old zeros (length old) refl, drop_at old zeros (length old) refl, drop_all (length (old ++ zeros) - length old) zeros (omega (arith, long)), append-nil text)
    (take_at (old ++ text) rest n (length-append old text ∙ sym e))

pub put_behind : (old was whole text rest : List ℕ) (len n : ℕ) → was ≡ old → len ≡ length old → whole ≡ take n was ++ replicate (n - len) 0 → n ≡ len + length text
    → take n ((take len whole ++ (text ++ post_of len (length whole - len) whole)) ++ rest) ≡ old ++ text
put_behind old was whole text rest len n same all grown more =
    let zeros : List ℕ = replicate (n - len) 0 in
    let long : n ≡ length old + length text = more ∙ ap (λ k. k + length text) all in
    let now : whole ≡ old ++ zeros = grown ∙ ap (λ l. l ++ zeros) (ap (take n) same ∙ take_all n old (omega (arith, long))) in
    rw (now, all) (over_zeros old (replicate (n - length old) 0) text rest n (omega (arith, long, length-replicate {A = ℕ} (n - length old) 0)) long)

-- reading: the library's words against ours
value_same : (c : ℕ) → hex_digit_value c ≡ hex_value c
value_same c = grind (arith, nat_tests)

abbrev bytes_in : {A : Type 0} → Result A FromHexError → Option A
bytes_in (Ok x) = Some x
bytes_in (Err e) = None

value_in : (c i : ℕ) → bytes_in (value_at c i) ≡ hex_value c
value_in c i = from_value (hex_digit_value c) ∙ value_same c
  where
    from_value : (o : Option ℕ) → bytes_in (digit_or_error c i o) ≡ o
    from_value None = refl
    from_value (Some v) = refl

pair_in : (a b i : ℕ) → bytes_in (pair_value a b i) ≡ byte_of a b
unfolding byte_of
pair_in a b i =
    both (value_at a i) (value_at b (i + 1))
    ∙ ap (λ o. joined o (bytes_in (value_at b (i + 1)))) (value_in a i)
    ∙ ap (joined (hex_value a)) (value_in b (i + 1))
  where
    both : (r t : Result ℕ FromHexError) → bytes_in (r >>= (λ h. t >>= (λ l. Ok (h * 16 + l)))) ≡ joined (bytes_in r) (bytes_in t)
    both (Err e) t = refl
    both (Ok h) (Err e) = refl
    both (Ok h) (Ok l) = ap Some (omega arith)

pub pairs_in : (i : ℕ) (s : List ℕ) → bytes_in (decode_pairs i s) ≡ bytes_of s
unfolding decode_pairs bytes_of
pairs_in i [] = refl
pairs_in i (a ∷ []) = refl
pairs_in i (a ∷ b ∷ s) = by (pair_value a b i) (decode_pairs (i + 2) s) ∙ ap (λ o. before o (bytes_in (decode_pairs (i + 2) s))) (pair_in a b i) ∙ ap (before (byte_of a b)) (pairs_in (i + 2) s)
  where
    by : (r : Result ℕ FromHexError) (t : Result (List ℕ) FromHexError) → bytes_in (r >>= (λ x. t >>= (λ xs. Ok (x ∷ xs)))) ≡ before (bytes_in r) (bytes_in t)
    by (Err e) t = refl
    by (Ok x) (Err e) = refl
    by (Ok x) (Ok xs) = refl

in_even : (s : List ℕ) → length s % 2 ≡ 0 → bytes_of s ≡ bytes_in (decode_of s)
in_even s even = sym (pairs_in 0 s) ∙ ap bytes_in (sym (decode_of-even s even))

pub decoded : (s xs : List ℕ) → decode_of s ≡ Ok xs → (length s % 2 ≡ 0) × (bytes_of s ≡ Some xs)
decoded s xs is =
    let even = (decode_of-ok s xs is).0 in
    (even, in_even s even ∙ ap bytes_in is)

pub refused : (s : List ℕ) (e : FromHexError) → (e ≡ OutOfMemory) ⊎ (decode_of s ≡ Err e) → Told s (refusal_of e)
refused s e (inl memory) = subst (λ x. Told s (refusal_of x)) (sym memory) tt
refused s e (inr is) =
    elim (cases_eq (length s % 2) 1) [
      | inl odd ↦ elim (decode_of-err s e is) [
        | inl p ↦ subst (λ x. Told s (refusal_of x)) (sym p.1) odd
        | inr p ↦ cc (sym (decode_of-odd s odd) ∙ is ∙ ap Err p.1)
      ]
      | inr other ↦
          let even : length s % 2 ≡ 0 = omega arith in
          let first = decode_pairs-err 0 s e even (sym (decode_of-even s even) ∙ is) in
          rw first.1 (even, in_even s even ∙ ap bytes_in is)
    ]

-- a word with another byte writes nothing
same_test : (c : ℕ) → is_ascii_hexdigit c ≡ is_some (hex_value c)
same_test c = grind (arith, nat_tests)

pub stopped : (s : List ℕ) → list_all is_ascii_hexdigit s ≡ false → bytes_of s ≡ None
unfolding bytes_of byte_of
stopped [] h = cc h
stopped (a ∷ []) h = refl
stopped (a ∷ b ∷ cs) h = by (hex_value a) (hex_value b) (list_all is_ascii_hexdigit cs) (bytes_of cs) (stopped cs) (rw (same_test a, same_test b) at h)
  where
    by : (high low : Option ℕ) (rest : Bool) (bs : Option (List ℕ)) → (rest ≡ false → bs ≡ None) → (is_some high && (is_some low && rest)) ≡ false → before (joined high low) bs ≡ None
    by None low rest bs more e = refl
    by (Some x) None rest bs more e = refl
    by (Some x) (Some y) rest bs more e = ap (before (Some (16 * x + y))) (more e)

-- the law
value_digit : (n : ℕ) → n < 16 → hex_value (hex_digit n) ≡ Some n
value_digit n h = ⊎_elim (λ low. low_digit low) (λ high. high_digit high) (cases_lt n 10)
  where
    low_digit : n < 10 → hex_value (hex_digit n) ≡ Some n
    low_digit low = rw (lt-ltb n 10 low) (grind (arith, nat_tests))

    high_digit : 10 ≤ n → hex_value (hex_digit n) ≡ Some n
    high_digit high = rw (le-ltb n 10 high) (grind (arith, nat_tests))

byte_back : (b : ℕ) → b < 256 → byte_of (hex_digit (b / 16)) (hex_digit (b % 16)) ≡ Some b
unfolding byte_of
byte_back b h =
    let high : b / 16 < 16 = omega arith in
    let low : b % 16 < 16 = omega arith in
    ap (λ o. joined o (hex_value (hex_digit (b % 16)))) (value_digit (b / 16) high)
    ∙ ap (λ o. joined (Some (b / 16)) o) (value_digit (b % 16) low)
    ∙ ap Some (omega arith)

pub reads_back : ReadsBack
unfolding hex_of bytes_of
reads_back [] each = refl
reads_back (b ∷ bs) each = ap (λ o. before o (bytes_of (hex_of bs))) (byte_back b each.0) ∙ ap (λ o. before (Some b) o) (reads_back bs each.1)
