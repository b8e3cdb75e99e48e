-- A scene's levels into their channels, all at once.
use Rattle.std.proofs.Common.{◌≡◌, ℕ, zero, suc, ◌+◌, ◌-◌, ◌≤◌, List, [], ◌∷◌, length, take, set, min, refl, arith}
use Rattle.std.proofs.lemmas.List.{set_past, length-set, length-take, take_min}
use Rattle.commands.specs.Bytes.{over}
use Rattle.commands.specs.Levels.{filled}
use Rattle.commands.proofs.Writes.{mid_over, set_over, over-over, over_none}

-- nothing has a place
filled_past : (ls : List ℕ) (c : ℕ) (vs : List ℕ) → length ls ≤ c → filled ls c vs ≡ ls
filled_past ls c [] h = refl
filled_past ls c (v ∷ vs) h = let e = filled_past ls (suc c) vs in grind (arith, set_past)

-- all have a place
filled_whole : (ls : List ℕ) (c : ℕ) (vs : List ℕ) → c + length vs ≤ length ls → filled ls c vs ≡ over ls c vs
filled_whole ls c [] h = grind (arith, over_none)
filled_whole ls c (v ∷ vs) h =
    let long = length-set ls c v in
    let one = set_over ls c v in
    let others = filled_whole (set ls c v) (suc c) vs in
    let both = over-over ls (v ∷ []) vs c (suc c) in
    grind arith

-- those that have no place make no difference
filled_cut : (ls : List ℕ) (c n : ℕ) (vs : List ℕ) → c + n ≡ length ls → filled ls c (take n vs) ≡ filled ls c vs
filled_cut ls c zero vs h = grind (arith, filled_past)
filled_cut ls c (suc n) [] h = refl
filled_cut ls c (suc n) (v ∷ vs) h = let long = length-set ls c v in filled_cut (set ls c v) (suc c) n vs (omega arith)

pub filled_is : (ls : List ℕ) (c : ℕ) (vs : List ℕ) (f n : ℕ) → f ≡ min c (length ls) → n ≡ min (length vs) (length ls - f) → over ls f (take n vs) ≡ filled ls c vs
filled_is ls c vs f n p q =
    let cut = filled_cut ls c (length ls - c) vs in
    let whole = filled_whole ls c (take n vs) in
    let long = length-take n vs in
    let some = take_min (length ls - c) vs in
    grind (arith, filled_past, over_none)

pub ruleset fills = (mid_over, filled_is, length-take)
