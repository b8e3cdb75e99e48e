use Rattle.std.proofs.Common.{take, arith}
use Rattle.std.proofs.lemmas.List.{length-take-le}
use Rattle.commands.proofs.Writes.{puts_none, puts_level, length-levels}
use Rattle.commands.proofs.writer.Writer.put_levels.Goals as goal

pub loop-level-init : goal.loop-level-init
loop-level-init c = puts_none _

pub put-requires : goal.put-requires
put-requires c =
    let n = length-levels (take c.loop-level.level-index c.args.levels.now) in
    let k = length-take-le c.loop-level.level-index c.args.levels.now (omega arith) in
    let i = c.loop-level.invariant.place in
    let r = c.loop-level.invariant.room in
    (omega arith, omega arith)

pub loop-level-preserved : goal.loop-level-preserved
loop-level-preserved c = puts_level c.args.levels.now c.loop-level.level-index (omega arith) (omega arith) c.loop-level.invariant c.put.ensures c.to_be_bytes.ensures
