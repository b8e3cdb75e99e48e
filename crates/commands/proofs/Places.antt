-- Filling a scene's places from the front, and the first level that is too high.
use Rattle.std.proofs.Common.{◌≡◌, ℕ, suc, ◌+◌, ◌-◌, ◌<◌, cond, leb, List, [], ◌∷◌, ◌++◌, length, get_or, take, drop, set, replicate, Some, Ok, Err, Result, sym, ap, ◌∙◌, append_assoc, arith}
use Rattle.std.proofs.lemmas.Grind.{common_steps}
use Rattle.std.proofs.lemmas.List.{set_at, take_more, at_drop_more}
use Rattle.commands.specs.declared.types.Refusal.{Refusal}
use Rattle.commands.specs.Values.{first_high, unless_high, level_or, padded}

-- one place more
place_more : (fs ps : List ℕ) (k v : ℕ) → length fs ≡ k → k < 32 → ps ≡ fs ++ replicate (32 - k) 0 → set ps k v ≡ (fs ++ (v ∷ [])) ++ replicate (32 - (k + 1)) 0
place_more fs ps k v long l p =
    let n : 32 - k ≡ suc (32 - (k + 1)) = omega arith in
    let zeros : replicate {A = ℕ} (32 - k) 0 ≡ 0 ∷ replicate (32 - (k + 1)) 0 = ap (λ m. replicate m 0) n in
    let split = set_at fs 0 (replicate (32 - (k + 1)) 0) v k long in
    let group = append_assoc fs (v ∷ []) (replicate (32 - (k + 1)) 0) in
    cc

-- one place more of a list's
pub place_taken : (ls ps : List ℕ) (k v : ℕ) → k < length ls → k < 32 → v ≡ get_or ls k 0 → ps ≡ take k ls ++ replicate (32 - k) 0 →
    set ps k v ≡ take (k + 1) ls ++ replicate (32 - (k + 1)) 0
place_taken ls ps k v h l e p =
    let m = place_more (take k ls) ps k v in
    grind (arith, common_steps, take_more)

module _ (ls : List ℕ) (k : ℕ) (h : k < length ls) (left : first_high (drop k ls) ≡ first_high ls) where
  step : cond (leb (get_or ls k 0) 65535) (first_high (drop (k + 1) ls)) (Some (get_or ls k 0)) ≡ first_high ls
  step = sym (at_drop_more first_high ls k 0 h) ∙ left

  -- a level that can be: it is the one that stands there, and the search goes on behind it
  pub level_more : {v : ℕ} → ◌≡◌ {A = Result ℕ Refusal} (Ok v) (level_or (get_or ls k 0)) → (v ≡ get_or ls k 0) × (first_high (drop (k + 1) ls) ≡ first_high ls)
  level_more e = let s = step in grind arith

  -- a level that can't be: it is the first such
  pub level_refused : {X : Type 0} (x : X) {e : Refusal} → ◌≡◌ {A = Result ℕ Refusal} (Err e) (level_or (get_or ls k 0)) → Err e ≡ unless_high (first_high ls) x
  level_refused x e = let s = step in grind arith

-- all places are filled
pub places_all : (ls ps : List ℕ) (k : ℕ) → k ≡ length ls → ps ≡ take k ls ++ replicate (32 - k) 0 → first_high (drop k ls) ≡ first_high ls → Ok ps ≡ unless_high (first_high ls) (padded ls)
places_all ls ps k n p left = grind (arith, common_steps)

pub ruleset places = (place_taken, level_more, level_refused, places_all)
