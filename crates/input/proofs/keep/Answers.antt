use Rattle.std.proofs.Common.{◌-◌, length, min, ap, ◌∙◌}
use Rattle.input.specs.Line.{most}
use Rattle.input.proofs.Kept.{part_kept}
use Rattle.input.proofs.keep.Goals as goal

pub returns : goal.returns
returns c =
    let size = c.len.ensures ∙ c.args.line.now.ok.0 in
    part_kept _ c.args.line.now.items _ _ _ c.extend_from_slice.ensures.items
    (c.min.ensures ∙ ap (λ n. min n (length c.args.part.now)) (c.saturating_sub-room.ensures ∙ ap (λ n. most - n) size))
