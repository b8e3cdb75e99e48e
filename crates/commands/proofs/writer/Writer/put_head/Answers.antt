use Rattle.std.proofs.Common.{refl, arith}
use Rattle.commands.proofs.Writes.{puts_none, then_puts}
use Rattle.commands.proofs.writer.Writer.put_head.Goals as goal

pub returns : goal.returns
returns c =
    then_puts _ (omega arith) (then_puts _ (omega arith) (then_puts _ (omega arith) (then_puts _ (omega arith) (puts_none _) c.put.ensures c.to_be_bytes.ensures) c.put-2.ensures refl) c.put-3.ensures c.to_be_bytes-2.ensures) c.put-4.ensures c.to_be_bytes-3.ensures
