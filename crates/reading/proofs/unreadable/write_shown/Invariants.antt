use Rattle.std.proofs.Common.{◌≡◌, length, take}
use Rattle.reading.specs.declared.unreadable.TheConstants.{PART}
use Rattle.reading.specs.Shown.{printable}
use Rattle.reading.proofs.unreadable.write_shown.Given as goal

abbrev pub invariant-loop-b : goal.invariant-loop-b
invariant-loop-b g l = record {
  room : length l.room ≡ PART;
  counted : l.len ≡ l.b-index;
  so_far : take l.len l.room ≡ printable (take l.b-index l.part);
}
