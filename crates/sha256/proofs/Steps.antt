-- One step more of the definitions that go by recursion: the schedule and the rounds.
-- Assumes nothing.
use Rattle.std.proofs.Common.{◌≡◌, ℕ, zero, suc, ◌+◌, ◌-◌, ◌*◌, ◌<◌, ◌≤◌, List, [], ◌∷◌, ◌++◌, length, get_or, take, drop, set, fold, sym, refl, ap, ◌∙◌, add-zero, add-one, arith}
use Rattle.std.proofs.Math.Seq.{drop-cons}
use Rattle.std.proofs.lemmas.List.{take_more_set, get_or-take, get_or-drop, drop-drop}
use Rattle.std.proofs.lemmas.Bool.{cond_below, cond_above}
use Rattle.std.specs.Int.{from_be_bytes, w32}
use Rattle.std.specs.List.{zip}
use Rattle.std.specs.Simd.{first_chunks}
use Rattle.sha256.specs.declared.rounds.State.{State}
use Rattle.sha256.specs.Sha256.{round_constants, message_word, later_word, schedule_word, schedule, keyed_round, after_rounds}

-- word t of a block, by its four bytes
pub word_at : (block : List ℕ) (t : ℕ) → from_be_bytes w32 (take 4 (drop (4 * t) block)) ≡ message_word block t
word_at block t =
    let p0 : 0 < 4 = omega arith in
    let p1 : 1 < 4 = omega arith in
    let p2 : 2 < 4 = omega arith in
    let p3 : 3 < 4 = omega arith in
    simp (get_or-take, get_or-drop, add-zero, p0, p1, p2, p3)

schedule_more : (block : List ℕ) (t : ℕ)
    → schedule block (t + 1) ≡ schedule block t ++ schedule_word block (schedule block t) t ∷ []
unfolding schedule
schedule_more block t = rw add-one

-- a schedule in the making: its first t words stand in w, and word t is written behind them
module _ (block w : List ℕ) (t x : ℕ) (fits : t < length w) (so_far : take t w ≡ schedule block t) where
  written : x ≡ schedule_word block (schedule block t) t → take (t + 1) (set w t x) ≡ schedule block (t + 1)
  written e =
      take_more_set w t x fits
      ∙ ap (λ (xs : List ℕ). xs ++ x ∷ []) so_far
      ∙ ap (λ (y : ℕ). schedule block t ++ y ∷ []) e
      ∙ sym (schedule_more block t)

  pub first_more : t < 16 → x ≡ message_word block t → take (t + 1) (set w t x) ≡ schedule block (t + 1)
  unfolding schedule_word
  first_more h e = written (e ∙ cond_below t 16 _ _ h)

  before : (k : ℕ) → 0 < k → k ≤ t → get_or w (t - k) 0 ≡ get_or (schedule block t) (t - k) 0
  before k p q = sym (get_or-take t w (t - k) 0 (omega arith)) ∙ ap (λ (xs : List ℕ). get_or xs (t - k) 0) so_far

  pub later_more : 16 ≤ t
      → x ≡ later_word (get_or w (t - 2) 0) (get_or w (t - 7) 0) (get_or w (t - 15) 0) (get_or w (t - 16) 0)
      → take (t + 1) (set w t x) ≡ schedule block (t + 1)
  unfolding schedule_word
  later_more h e =
      let e2 = before 2 (omega arith) (omega arith) in
      let e7 = before 7 (omega arith) (omega arith) in
      let e15 = before 15 (omega arith) (omega arith) in
      let e16 = before 16 (omega arith) (omega arith) in
      written (cond_above t 16 _ _ _ h (cc))

length-round_constants : length round_constants ≡ 64
unfolding round_constants
length-round_constants = refl

-- the next n rounds after t of them, over the next n constants and words
pub rounds_more : (v : State) (w : List ℕ) (n t : ℕ) → t + n ≤ 64 → t + n ≤ length w
    → fold keyed_round (after_rounds v w t) (zip (take n (drop t round_constants)) (take n (drop t w))) ≡ after_rounds v w (t + n)
unfolding after_rounds
rounds_more v w zero t h l = let e : t + 0 ≡ t = omega arith in rw e
rounds_more v w (suc n) t h l =
    let k : drop t round_constants ≡ get_or round_constants t 0 ∷ drop (suc t) round_constants =
    drop-cons round_constants t 0 (omega (arith, length-round_constants)) in
    let x : drop t w ≡ get_or w t 0 ∷ drop (suc t) w = drop-cons w t 0 (omega arith) in
    let e : t + suc n ≡ suc t + n = omega arith in
    rw (k, x, e) (rounds_more v w n (suc t) (omega arith) (omega arith))

-- eight rounds, over eight constants and eight words
abbrev pub eights : State → List ℕ × List ℕ → State
eights v p = fold keyed_round v (zip p.0 p.1)

in_eights : (v : State) (w : List ℕ) (n t : ℕ) → t + 8 * n ≤ 64 → t + 8 * n ≤ length w
    → fold eights (after_rounds v w t) (zip (first_chunks 8 n (drop t round_constants)) (first_chunks 8 n (drop t w))) ≡ after_rounds v w (t + 8 * n)
in_eights v w zero t h l = let e : t + 8 * 0 ≡ t = omega arith in rw e
in_eights v w (suc n) t h l =
    let e : t + 8 * suc n ≡ (t + 8) + 8 * n = omega arith in
    rw (rounds_more v w 8 t (omega arith) (omega arith), drop-drop 8 t round_constants, drop-drop 8 t w, e) (in_eights v w n (t + 8) (omega arith) (omega arith))

pub rounds_in_eights : (v : State) (w : List ℕ) → length w ≡ 64
    → fold eights v (zip (first_chunks 8 8 round_constants) (first_chunks 8 8 w)) ≡ after_rounds v w 64
unfolding after_rounds
rounds_in_eights v w long = in_eights v w 8 0 (omega arith) (omega arith)
