use Rattle.std.proofs.Common.{[], ◌∷◌, ◌++◌, get_or, vec_items, ap, ◌∙◌}
use Rattle.reading.specs.Shown.{shown, printable}
use Rattle.reading.proofs.Pieces.{printable_none, printable_more, printable_all, cut_short}
use Rattle.reading.proofs.unreadable.push_printable.Goals as goal

pub loop-b-init : goal.loop-b-init
loop-b-init c = printable_none _ c.args.word.now

pub returns-in_err-push : goal.returns-in_err-push
returns-in_err-push c =
    cut_short (vec_items c.args.out.now) (printable c.args.word.now) _ _ c.from_residual.result c.from_residual.ensures.0
    (c.in_err-push.ensures.items ∙ c.loop-b.invariant)

pub loop-b-preserved : goal.loop-b-preserved
loop-b-preserved c =
    c.in_ok-push.ensures.items
    ∙ ap (λ b. vec_items c.loop-b.out ++ b ∷ []) c.shown.ensures
    ∙ ap (λ l. l ++ shown (get_or c.args.word.now c.loop-b.b-index 0) ∷ []) c.loop-b.invariant
    ∙ printable_more _ _ _ c.loop-b-test.true

pub returns : goal.returns
returns c = c.loop-b.invariant ∙ ap (λ l. vec_items c.args.out.now ++ l) (printable_all _ _ c.loop-b-test.false)
