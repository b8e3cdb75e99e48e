-- What an action does to the levels, a list with a level for each channel.
use Rattle.std.specs.Prelude.{ℕ, suc, ◌+◌, ◌-◌, min, List, [], ◌∷◌, take, ℤ, pos, negsuc, slice_index, slice_set}
use Rattle.commands.specs.declared.types.Action.{Action}
use Rattle.commands.specs.declared.types.Action.TheVariants.{Set, Move, Scene as OfScene}

-- a level moved by a signed step, with a stop at 65,535 and one at 0 (a difference of naturals stops at 0)
abbrev pub moved : ℕ → ℤ → ℕ
moved l (pos s) = min (l + s) 65535
moved l (negsuc s) = l - suc s

-- the values into the channels from c on; those past the last channel are left out
abbrev pub filled : List ℕ → ℕ → List ℕ → List ℕ
filled ls c [] = ls
filled ls c (v ∷ vs) = filled (slice_set ls c v) (suc c) vs

-- the levels after an action
abbrev pub applied : Action → List ℕ → List ℕ
applied (Set c l) ls = slice_set ls c.index l
applied (Move c s) ls = slice_set ls c.index (moved (slice_index ls c.index) s)
applied (OfScene s) ls = filled ls s.first.index (take s.count s.levels)
