use Rattle.std.proofs.Common.{◌≡◌, ◌+◌, ◌*◌, ◌++◌, drop}
use Rattle.commands.specs.Bytes.{list_at}
use Rattle.commands.proofs.reader.Reader.take_levels.Given as goal

-- the levels so far are read
abbrev pub invariant-loop-level : goal.invariant-loop-level
invariant-loop-level l = record {
  bytes : l.self.bytes.now ≡ l.initial.self.bytes.now;
  place : l.self.at ≡ l.initial.self.at + 2 * l.level-index;
  levels : l.levels ≡ list_at l.initial.self.bytes.now l.initial.self.at l.level-index ++ drop l.level-index l.initial.levels;
}
