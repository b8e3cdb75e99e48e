use Rattle.std.proofs.Common.{◌≡◌, ◌-◌, ◌++◌, take, drop, replicate}
use Rattle.commands.specs.Values.{first_high}
use Rattle.commands.proofs.types.places_of.Given as goal

-- the places so far are filled, and a level that is too high is yet to come
abbrev pub invariant-loop-k : goal.invariant-loop-k
invariant-loop-k l = (l.places ≡ take l.k l.levels ++ replicate (32 - l.k) 0) × (first_high (drop l.k l.levels) ≡ first_high l.levels)
