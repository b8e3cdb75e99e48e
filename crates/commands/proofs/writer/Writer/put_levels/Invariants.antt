use Rattle.std.proofs.Common.{take}
use Rattle.std.specs.List.{flat_map}
use Rattle.commands.specs.Bytes.{bytes2}
use Rattle.commands.specs.Writer.{Puts}
use Rattle.commands.proofs.writer.Writer.put_levels.Given as goal

-- the levels so far are written
abbrev pub invariant-loop-level : goal.invariant-loop-level
invariant-loop-level l = Puts l.initial.self l.self (flat_map bytes2 (take l.level-index l.levels))
