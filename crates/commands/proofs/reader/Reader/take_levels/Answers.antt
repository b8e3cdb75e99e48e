use Rattle.std.proofs.Common.{ap, ◌∙◌, take, drop, arith}
use Rattle.commands.proofs.Numbers.{number_at2, level_read}
use Rattle.commands.proofs.reader.Reader.take_levels.Goals as goal

pub loop-level-preserved : goal.loop-level-preserved
loop-level-preserved c =
    let b = c.args.self.now.bytes.now in
    let i = c.loop-level.invariant in
    let place = i.place in
    let next = c.take.ensures.place in
    let level = number_at2 b c.loop-level.self.at (omega arith) c.from_be_bytes.ensures (c.take.ensures.value ∙ ap (λ x. take 2 (drop c.loop-level.self.at x)) i.bytes) in
    record { bytes = c.take.ensures.bytes ∙ i.bytes; place = omega arith; levels = level_read b c.args.self.now.at c.loop-level.level-index c.loop-level.self.at c.args.levels.now (omega arith) i.place level i.levels }
