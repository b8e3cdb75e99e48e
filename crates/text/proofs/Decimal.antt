-- One digit more of a number. Assumes nothing.
use Rattle.std.proofs.Common.{◌≡◌, ℕ, ◌+◌, ◌-◌, ◌*◌, ◌^◌, ◌<◌, ◌≤◌, Bool, true, false, ltb, List, [], ◌∷◌, length, get_or, drop, pos, neg_ℤ, Some, None, Option, Ok, Err, Result, FitsSigned, w32, ℤ, sym, refl, ap, ◌∙◌, arith}
use Rattle.std.specs.Result.{OkIff, result_ok}
use Rattle.std.proofs.Math.Bool.{and-false}
use Rattle.std.proofs.lemmas.Int.{ints}
use Rattle.std.proofs.lemmas.List.{at_drop_more, at_drop_all}
use Rattle.std.proofs.lemmas.Bool.{lt-ltb, le-ltb, ltb-false, eq-eqb, ne_eqb}
use Rattle.std.proofs.lemmas.Bool.Decides.{nat_tests}
use Rattle.text.specs.Numeral.{digit, all_digits, value_after, read_after, appended, number_of, step_of, raised, lowered}

value_ge : (n : ℕ) (bs : List ℕ) → n ≤ value_after n bs
unfolding value_after
value_ge n [] = omega arith
value_ge n (b ∷ bs) = omega (arith, value_ge (10 * n + (b - 48)) bs)

abbrev pub next : Option ℕ → List ℕ → Option ℕ
next None bs = None
next (Some m) bs = read_after m bs

read_step : (n b : ℕ) (bs : List ℕ) → read_after n (b ∷ bs) ≡ next (appended n b) bs
unfolding read_after all_digits value_after appended
read_step n b bs = by (digit b) (ltb (10 * n + (b - 48)) (2 ^ 64)) refl refl
  where
    by : (d t : Bool) → digit b ≡ d → ltb (10 * n + (b - 48)) (2 ^ 64) ≡ t → read_after n (b ∷ bs) ≡ next (appended n b) bs
    by false t e f = rw e
    by true true e f = rw (e, f)
    by true false e f =
        let big : ltb (value_after (10 * n + (b - 48)) bs) (2 ^ 64) ≡ false = le-ltb _ _ (omega (arith, ltb-false _ _ f, value_ge (10 * n + (b - 48)) bs)) in
        rw (e, f, big, and-false (all_digits bs))

pub read_none : (s : List ℕ) → length s ≡ 0 → None ≡ number_of s
unfolding number_of
read_none [] e = refl
read_none (b ∷ s) e = absurd (omega arith)

pub read_some : (s : List ℕ) → (length s ≡ 0 → ⊥) → read_after 0 s ≡ number_of s
unfolding number_of
read_some [] ne = absurd (ne refl)
read_some (b ∷ s) ne = refl

pub read_more : (n m : ℕ) (s : List ℕ) (i : ℕ) → i < length s → appended n (get_or s i 0) ≡ Some m → read_after m (drop (i + 1) s) ≡ read_after n (drop i s)
read_more n m s i h e = sym (at_drop_more (read_after n) s i 0 h ∙ read_step n _ _ ∙ ap (λ o. next o (drop (i + 1) s)) e)

pub read_stops : (n : ℕ) (s : List ℕ) (i : ℕ) → i < length s → appended n (get_or s i 0) ≡ None → read_after n (drop i s) ≡ None
read_stops n s i h e = at_drop_more (read_after n) s i 0 h ∙ read_step n _ _ ∙ ap (λ o. next o (drop (i + 1) s)) e

pub read_all : (n : ℕ) (s : List ℕ) (i : ℕ) → length s ≤ i → n < 2 ^ 64 → read_after n (drop i s) ≡ Some n
unfolding read_after all_digits value_after
read_all n s i h fits = at_drop_all (read_after n) s i h ∙ rw (lt-ltb _ _ fits)

-- a size, as a number with a sign that the conversion to 32 bits takes or refuses
raised_is : {E : Type 0} (n : ℕ) (z : ℤ) (r : Result ℤ E) → z ≡ pos n → OkIff r (FitsSigned w32 z) z → result_ok r ≡ raised (Some n)
unfolding raised
raised_is n z (Ok x) e is = grind (arith, ints, nat_tests)
raised_is n z (Err f) e is = grind (arith, ints, nat_tests)

lowered_is : {E : Type 0} (n : ℕ) (z : ℤ) (r : Result ℤ E) → z ≡ neg_ℤ (pos n) → OkIff r (FitsSigned w32 z) z → result_ok r ≡ lowered (Some n)
unfolding lowered
lowered_is n z (Ok x) e is = grind (arith, ints, nat_tests)
lowered_is n z (Err f) e is = grind (arith, ints, nat_tests)

-- a step, by its first byte
pub step_none : (s : List ℕ) → length s ≡ 0 → None ≡ step_of s
unfolding step_of
step_none [] e = refl
step_none (b ∷ s) e = absurd (omega arith)

module _ (s : List ℕ) (b : ℕ) (bs : List ℕ) (e : s ≡ b ∷ bs) where
  minus : b ≡ 45 → lowered (number_of bs) ≡ step_of s
  unfolding step_of
  minus m = rw (e, eq-eqb _ 45 m)

  plus : (b ≡ 45 → ⊥) → b ≡ 43 → raised (number_of bs) ≡ step_of s
  unfolding step_of
  plus other m = rw (e, ne_eqb _ 45 other, eq-eqb _ 43 m)

  plain : (b ≡ 45 → ⊥) → (b ≡ 43 → ⊥) → raised (number_of s) ≡ step_of s
  unfolding step_of
  plain other none = rw (e, ne_eqb _ 45 other, ne_eqb _ 43 none)

  pub no_minus : b ≡ 45 → number_of bs ≡ None → None ≡ step_of s
  unfolding lowered
  no_minus m none = ap lowered (sym none) ∙ minus m

  pub no_plus : (b ≡ 45 → ⊥) → b ≡ 43 → number_of bs ≡ None → None ≡ step_of s
  unfolding raised
  no_plus other m none = ap raised (sym none) ∙ plus other m

  pub no_plain : (b ≡ 45 → ⊥) → (b ≡ 43 → ⊥) → number_of s ≡ None → None ≡ step_of s
  unfolding raised
  no_plain other last none = ap raised (sym none) ∙ plain other last

  module _ {E : Type 0} (n : ℕ) (z : ℤ) (r : Result ℤ E) (is : OkIff r (FitsSigned w32 z) z) where
    pub step_minus : b ≡ 45 → number_of bs ≡ Some n → z ≡ neg_ℤ (pos n) → result_ok r ≡ step_of s
    step_minus m some f = lowered_is n z r f is ∙ ap lowered (sym some) ∙ minus m

    pub step_plus : (b ≡ 45 → ⊥) → b ≡ 43 → number_of bs ≡ Some n → z ≡ pos n → result_ok r ≡ step_of s
    step_plus other m some f = raised_is n z r f is ∙ ap raised (sym some) ∙ plus other m

    pub step_plain : (b ≡ 45 → ⊥) → (b ≡ 43 → ⊥) → number_of s ≡ Some n → z ≡ pos n → result_ok r ≡ step_of s
    step_plain other last some f = raised_is n z r f is ∙ ap raised (sym some) ∙ plain other last
