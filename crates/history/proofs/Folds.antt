-- The laws of histories.
use Rattle.std.proofs.Common.{◌≡◌, ℕ, suc, ◌+◌, ◌%◌, ◌^◌, List, [], ◌∷◌, length, take, set, refl, ◌∙◌, arith}
use Rattle.std.proofs.lemmas.List.{length-set, length-replicate}
use Rattle.commands.specs.declared.types.Action.{Action}
use Rattle.commands.specs.declared.types.Action.TheVariants.{Set, Move, Scene as OfScene}
use Rattle.commands.specs.Levels.{applied, filled}
use Rattle.history.specs.declared.Event.{Event}
use Rattle.history.specs.declared.Event.TheVariants.{Delivered, Entered}
use Rattle.history.specs.declared.Record.{Record}
use Rattle.history.specs.History.{record_after, levels_from, record_from, first_levels, first_record}
use Rattle.history.specs.Laws.{Counts, KeepsWidth}

counted : (r : Record) (n : ℕ) (es : List Event) → r.count ≡ n % 2 ^ 64 → (record_from r es).count ≡ (n + length es) % 2 ^ 64
counted r n [] h = omega arith
counted r n (e ∷ es) h =
    let more : (r.count + 1) % 2 ^ 64 ≡ (n + 1) % 2 ^ 64 = omega arith in
    let rest = counted (record_after r e) (n + 1) es more in
    omega arith

pub counts : Counts
unfolding first_record
counts es = let e = counted first_record 0 es refl in omega arith

length-filled : (ls : List ℕ) (c : ℕ) (vs : List ℕ) → length (filled ls c vs) ≡ length ls
length-filled ls c [] = refl
length-filled ls c (v ∷ vs) = length-filled (set ls c v) (suc c) vs ∙ length-set ls c v

length-applied : (a : Action) (ls : List ℕ) → length (applied a ls) ≡ length ls
length-applied (Set c l) ls = length-set ls c.index l
length-applied (Move c s) ls = length-set ls c.index _
length-applied (OfScene s) ls = length-filled ls s.first.index (take s.count s.levels)

length_from : (ls : List ℕ) (es : List Event) → length (levels_from ls es) ≡ length ls
length_from ls [] = refl
length_from ls (Delivered c ∷ es) = length_from (applied c.action ls) es ∙ length-applied c.action ls
length_from ls (Entered v ∷ es) = length_from ls es

pub keeps_width : KeepsWidth
unfolding first_levels
keeps_width es = length_from first_levels es ∙ length-replicate {A = ℕ} 512 0
