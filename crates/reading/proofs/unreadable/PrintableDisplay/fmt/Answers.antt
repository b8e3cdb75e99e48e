use Rattle.std.proofs.Common.{◌++◌, ◌∙◌, rules}
use Rattle.std.proofs.Output.{has_written_append, has_written_of_eq}
use Rattle.reading.specs.Shown.{printable}
use Rattle.reading.proofs.Texts.{one_part_more, all_parts}
use Rattle.reading.proofs.unreadable.PrintableDisplay.fmt.Goals as goal

pub loop-part-preserved : goal.loop-part-preserved
loop-part-preserved g c =
    let part = c.in-Some.part.now in
    let steps = c.in-Some.ensures.steps in
    record {
      next = search rules;
      ends = tt;
      size = steps.0 ∙ c.loop-part.invariant.size;
      so_far = λ plain.
          let so_far = c.loop-part.invariant.so_far plain in
          (so_far.0 ++ printable part, has_written_append _ _ _ _ _ _ so_far.1 (search rules), one_part_more so_far.0 _ _ _ _ steps.1.0 so_far.2);
    }

pub returns-clause-writes : goal.returns-clause-writes
returns-clause-writes g c = λ plain _.
    let so_far = c.loop-part.invariant.so_far plain in
    has_written_of_eq _ _ _ _ _ (all_parts _ _ _ c.in-None.ensures.steps.1.0 so_far.2) so_far.1
