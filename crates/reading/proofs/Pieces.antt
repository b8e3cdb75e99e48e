-- One piece more of a text. Assumes nothing.
use Rattle.std.proofs.Common.{◌≡◌, ℕ, ◌+◌, ◌<◌, ◌≤◌, true, cond, List, [], ◌∷◌, ◌++◌, length, get_or, take, is_ok, is_err, Ok, Err, Result, sym, refl, ap, ◌∙◌, append_assoc, append-nil, arith}
use Rattle.std.proofs.lemmas.List.{map_more, take_at, take_all, take-take, length-append}
use Rattle.reading.specs.Shown.{shown, printable, Appended}

pub printable_none : (was s : List ℕ) → was ≡ was ++ printable (take 0 s)
unfolding printable
printable_none was s = sym (append-nil was)

pub printable_more : (was s : List ℕ) (i : ℕ) → i < length s → (was ++ printable (take i s)) ++ shown (get_or s i 0) ∷ [] ≡ was ++ printable (take (i + 1) s)
unfolding printable
printable_more was s i h = append_assoc was _ _ ∙ ap (λ l. was ++ l) (sym (map_more shown s i 0 h))

pub printable_all : (s : List ℕ) (i : ℕ) → length s ≤ i → printable (take i s) ≡ printable s
printable_all s i h = ap printable (take_all i s h)

module _ {E : Type 0} (was text : List ℕ) where
  -- memory failed: `rest` may stand behind what was there
  pub cut_short : (rest is : List ℕ) (r : Result (Unit {0}) E) → is_err r ≡ true → is ≡ was ++ rest → Appended was text r is
  cut_short rest is (Ok x) by e = cc
  cut_short rest is (Err y) by e = ap (take (length was)) e ∙ take_at was rest _ refl

  -- the last piece of the text, behind the pieces `front`
  pub last_piece : (front piece mid is : List ℕ) (r : Result (Unit {0}) E) → mid ≡ was ++ front → text ≡ front ++ piece → is ≡ cond (is_ok r) (mid ++ piece) mid → Appended was text r is
  last_piece front piece mid is (Ok x) m t e = e ∙ ap (λ l. l ++ piece) m ∙ append_assoc was front piece ∙ ap (λ l. was ++ l) (sym t)
  last_piece front piece mid is (Err y) m t e = cut_short front is (Err y) refl (e ∙ m)

  -- a piece within the text could not be written whole
  pub cut_within : (front mid is : List ℕ) (r : Result (Unit {0}) E) → is_err r ≡ true → mid ≡ was ++ front → take (length mid) is ≡ mid → Appended was text r is
  cut_within front mid is (Ok x) by m e = cc
  cut_within front mid is (Err y) by m e =
      let long = ap length m ∙ length-append was front in
      sym (take-take (length was) (length mid) is (omega arith)) ∙ ap (take (length was)) (e ∙ m) ∙ take_at was front _ refl

  -- the text is `front` and `more`, and `more` was appended behind `front`
  pub behind_piece : (front more mid is : List ℕ) (r : Result (Unit {0}) E) → mid ≡ was ++ front → text ≡ front ++ more → Appended mid more r is → Appended was text r is
  behind_piece front more mid is (Ok x) m t e = e ∙ ap (λ l. l ++ more) m ∙ append_assoc was front more ∙ ap (λ l. was ++ l) (sym t)
  behind_piece front more mid is (Err y) m t e = cut_within front mid is (Err y) refl m e
