-- One byte more of a line. Assumes nothing.
use Rattle.std.proofs.Common.{◌≡◌, ◌≢◌, ℕ, zero, suc, ◌+◌, ◌-◌, ◌<◌, ◌≤◌, true, false, eqb, List, [], ◌∷◌, ◌++◌, length, get_or, Some, None, Option, take, drop, sym, refl, ap, ◌∙◌, ⊎_elim, append_assoc, append-nil, arith}
use Rattle.std.proofs.lemmas.List.{at_drop_more, at_drop_all, take_more, drop_more, take_rest, length-take-le, length-drop, get_or-drop}
use Rattle.std.proofs.lemmas.Bool.{cond-true, cond-false, ne_eqb, eq-eqb, both_ways, cases_lt}
use Rattle.std.proofs.Math.Bool.{and-true}
use Rattle.std.proofs.Math.Numerals.{suc-eq-add-one}
use Rattle.std.specs.Borrow.{Bor}
use Rattle.std.specs.List.{AllWithin, slice_index}
use Rattle.std.specs.Option.{MatchOption, unwrap_or}
use lib.Pointwise.{pointwise}
use Rattle.text.specs.Line.{blank, ended, words, words_after, before_comment, without_return}

words_blank : (b : ℕ) (bs : List ℕ) → blank b ≡ true → words (b ∷ bs) ≡ words bs
unfolding words words_after
words_blank b bs e = cond-true (blank b) _ _ e

words_empty : words [] ≡ []
unfolding words words_after
words_empty = refl

pub blanks_more : (s : List ℕ) (i : ℕ) → i < length s → blank (get_or s i 0) ≡ true → words (drop (i + 1) s) ≡ words (drop i s)
blanks_more s i h e = sym (at_drop_more words s i 0 h ∙ words_blank _ _ e)

pub blanks_skipped : (s : List ℕ) (i : ℕ) → i ≤ length s → AllWithin (λ b. blank b ≡ true) s 0 i → words (drop i s) ≡ words s
blanks_skipped s zero h each = refl
blanks_skipped s (suc i) h each = ap (λ n. words (drop n s)) (suc-eq-add-one i) ∙ blanks_more s i (omega arith) (each i 0 (omega arith) (omega arith)) ∙ blanks_skipped s i (omega arith) (λ k d low high. each k d low (omega arith))

-- a byte that is no blank goes to the word that is begun
after_solid : (w : List ℕ) (b : ℕ) (bs : List ℕ) → blank b ≡ false → words_after w (b ∷ bs) ≡ words_after (w ++ b ∷ []) bs
unfolding words_after
after_solid w b bs e = cond-false (blank b) _ _ e

after_blank : (w : List ℕ) (b : ℕ) (bs : List ℕ) → blank b ≡ true → words_after w (b ∷ bs) ≡ ended w ++ words (b ∷ bs)
unfolding words words_after
after_blank w b bs e = cond-true (blank b) _ _ e ∙ ap (λ x. ended w ++ x) (sym (words_blank b bs e))

after_end : (w : List ℕ) → words_after w [] ≡ ended w ++ words []
unfolding words words_after
after_end w = sym (append-nil (ended w))

pub after_none : (s : List ℕ) → words_after (take 0 s) (drop 0 s) ≡ words s
unfolding words
after_none s = refl

pub after_more : (s : List ℕ) (i : ℕ) → i < length s → blank (get_or s i 0) ≡ false → words_after (take (i + 1) s) (drop (i + 1) s) ≡ words_after (take i s) (drop i s)
after_more s i h e =
    ap (λ w. words_after w (drop (i + 1) s)) (take_more s i 0 h)
    ∙ sym (at_drop_more (words_after (take i s)) s i 0 h ∙ after_solid (take i s) _ _ e)

pub after_stops : (s : List ℕ) (i : ℕ) → i < length s → blank (get_or s i 0) ≡ true → words_after (take i s) (drop i s) ≡ ended (take i s) ++ words (drop i s)
after_stops s i h e = rw (drop_more s i 0 h) (after_blank (take i s) _ _ e)

pub after_all : (s : List ℕ) (i : ℕ) → length s ≤ i → words_after (take i s) (drop i s) ≡ ended (take i s) ++ words (drop i s)
after_all s i h = at_drop_all (words_after (take i s)) s i h ∙ after_end (take i s) ∙ sym (at_drop_all (λ x. ended (take i s) ++ words x) s i h)

after_solids : (s : List ℕ) (i : ℕ) → i ≤ length s → AllWithin (λ b. blank b ≡ false) s 0 i → words_after (take i s) (drop i s) ≡ words s
after_solids s zero h each = after_none s
after_solids s (suc i) h each = ap (λ n. words_after (take n s) (drop n s)) (suc-eq-add-one i) ∙ after_more s i (omega arith) (each i 0 (omega arith) (omega arith)) ∙ after_solids s i (omega arith) (λ k d low high. each k d low (omega arith))

pub solid_splits : (s : List ℕ) (i : ℕ) → i ≤ length s → AllWithin (λ b. blank b ≡ false) s 0 i → (i < length s → blank (get_or s i 0) ≡ true) → words s ≡ ended (take i s) ++ words (drop i s)
solid_splits s i h each stops = sym (after_solids s i h each) ∙ ⊎_elim (λ more. after_stops s i more (stops more)) (λ all. after_all s i all) (cases_lt i (length s))

-- a comment
pub comment_more : (s : List ℕ) (i : ℕ) → i < length s → (get_or s i 0 ≡ 35 → ⊥) → take (i + 1) s ++ before_comment (drop (i + 1) s) ≡ take i s ++ before_comment (drop i s)
unfolding before_comment
comment_more s i h ne =
    ap (λ w. w ++ before_comment (drop (i + 1) s)) (take_more s i 0 h)
    ∙ append_assoc (take i s) (get_or s i 0 ∷ []) (before_comment (drop (i + 1) s))
    ∙ ap (λ x. take i s ++ x) (sym (at_drop_more before_comment s i 0 h ∙ cond-false (eqb (get_or s i 0) 35) _ _ (ne_eqb _ 35 ne)))

pub comment_stops : (s : List ℕ) (i : ℕ) → i < length s → get_or s i 0 ≡ 35 → take i s ++ before_comment (drop i s) ≡ take i s
unfolding before_comment
comment_stops s i h e =
    ap (λ x. take i s ++ x) (at_drop_more before_comment s i 0 h ∙ cond-true (eqb (get_or s i 0) 35) _ _ (eq-eqb _ 35 e))
    ∙ append-nil (take i s)

pub comment_all : (s : List ℕ) (i : ℕ) → length s ≤ i → take i s ++ before_comment (drop i s) ≡ take i s
unfolding before_comment
comment_all s i h = ap (λ x. take i s ++ x) (at_drop_all before_comment s i h) ∙ append-nil (take i s)

comment_kept : (s : List ℕ) (i : ℕ) → i ≤ length s → AllWithin (λ b. b ≢ 35) s 0 i → take i s ++ before_comment (drop i s) ≡ before_comment s
comment_kept s zero h each = refl
comment_kept s (suc i) h each = ap (λ n. take n s ++ before_comment (drop n s)) (suc-eq-add-one i) ∙ comment_more s i (omega arith) (each i 0 (omega arith) (omega arith)) ∙ comment_kept s i (omega arith) (λ k d low high. each k d low (omega arith))

pub comment_cut : (s : List ℕ) (i : ℕ) → i ≤ length s → AllWithin (λ b. b ≢ 35) s 0 i → (i < length s → get_or s i 0 ≡ 35) → take i s ≡ before_comment s
comment_cut s i h each stops = sym (⊎_elim (λ more. comment_stops s i more (stops more)) (λ all. comment_all s i all) (cases_lt i (length s))) ∙ comment_kept s i h each

-- the carriage return
at_last : (s : List ℕ) → 0 < length s → pointwise eqb (drop (length s - 1) s) (13 ∷ []) ≡ eqb (slice_index s (length s - 1)) 13
at_last s h = ap (λ l. pointwise eqb l (13 ∷ [])) (drop_more s (length s - 1) 0 (omega arith) ∙ ap (λ l. get_or s (length s - 1) 0 ∷ l) (at_drop_all (λ l. l) s (length s - 1 + 1) (omega arith)))
    ∙ and-true _

same_byte : (s : List ℕ) → pointwise eqb (drop (length s - 1) s) (13 ∷ []) ≡ eqb (slice_index s (length s - 1)) 13
same_byte [] = refl
same_byte (b ∷ s) = at_last (b ∷ s) (omega arith)

-- what `strip_suffix` says
pub return_off : (line : Bor (List ℕ)) (r : Option (Bor (List ℕ))) → MatchOption r (pointwise eqb (drop (length line.now - 1) line.now) (13 ∷ []) ≡ false) (λ x. (pointwise eqb (drop (length line.now - 1) line.now) (13 ∷ []) ≡ true) × (x.now ≡ take (length line.now - 1) line.now) × (length x.now + 1 ≡ length line.now)) → (unwrap_or r line).now ≡ without_return line.now
unfolding without_return
return_off line None other = sym (cond-false _ _ _ (sym (same_byte line.now) ∙ other))
return_off line (Some bare) cut = cut.1 ∙ sym (cond-true _ _ _ (sym (same_byte line.now) ∙ cut.0))

ended_some : (w : List ℕ) → 0 < length w → ended w ≡ w ∷ []
ended_some [] h = absurd (omega arith)
ended_some (b ∷ w) h = refl

-- a is where the next word begins in s, and e how long it is; both are counted as the code has them
module _ (s : List ℕ) (a e : ℕ) (same : words (drop a s) ≡ words s) where
  abbrev from : List ℕ
  from = take (length s - a) (drop a s)

  from_is : from ≡ drop a s
  from_is = take_rest s a

  pub some_word : words from ≡ ended (take e from) ++ words (drop e from) → 0 < e → e ≤ length from → words s ≡ take e from ∷ words (take (length from - e) (drop e from))
  some_word splits some within =
      let long : 0 < length (take e from) = omega (arith, length-take-le e from within) in
      sym same ∙ ap words (sym from_is) ∙ splits ∙ ap (λ x. x ++ words (drop e from)) (ended_some (take e from) long)
      ∙ ap (λ x. take e from ∷ words x) (sym (take_rest from e))

  pub word_shorter : 0 < e → e ≤ length from → length (take (length from - e) (drop e from)) < length s
  word_shorter some within =
      let size = ap length from_is ∙ length-drop a s in
      let back = ap length (take_rest from e) ∙ length-drop e from in
      omega arith

  pub no_word : a ≤ length s → e ≡ 0 → (a < length s → blank (get_or s a 0) ≡ false) → (e < length from → blank (get_or from e 0) ≡ true) → words s ≡ []
  no_word inside none solid stops =
      ⊎_elim
      (λ h.
      let size = ap length from_is ∙ length-drop a s in
      let here : get_or from e 0 ≡ get_or s a 0 = ap (λ l. get_or l e 0) from_is ∙ get_or-drop a s e 0 ∙ ap (λ n. get_or s n 0) (omega arith) in
      absurd (both_ways (blank (get_or s a 0)) (solid h) (ap blank (sym here) ∙ stops (omega arith))))
      (λ h. sym same ∙ at_drop_all words s a h ∙ words_empty)
      (cases_lt a (length s))
