use Rattle.std.proofs.Common.{take, subst, inl, inr, ◌∙◌, eq-eqb}
use Rattle.std.specs.Io.BufRead.{FillKeeps}
use Rattle.std.proofs.BufReadLemmas.{Consumes_shown}
use Rattle.std.proofs.Transfers.{StopsAt-take}
use Rattle.input.proofs.Kept.{shown_part}
use Rattle.input.proofs.take_part.Goals.{then-size-eq0, else-size-eq0}
use Rattle.input.proofs.take_part.Goals as goal

pub returns : goal.returns
returns g c fits =
    let shown = c.in_ok-held.held.now in
    let end = c.through_end-size in
    let rested = c.fill_buf.follows.lender-at-none in
    let filled = subst (FillKeeps _ (g.R.Read.remaining rested) (g.R.BufRead.consumable_len rested)) c.in_ok-held.was c.fill_buf.follows.holds-at-none in
    let moved = Consumes_shown _ _ _ _ shown end.result end.ensures.within c.in_ok-held.ensures.front c.in_ok-held.ensures.end filled.0 filled.1 c.consume.ensures.bytes in (
      take end.result shown,
      (
        moved.0,
        StopsAt-take _ _ _ end.ensures.within end.ensures.before,
        shown_part _ _ _ _ _ end.ensures.within end.ensures.some end.ensures.before moved.1 (elim c.if-size-eq0.branch [
          | then-size-eq0 w ↦ inl (w.if-size-eq0.true, w.done-is ∙ eq-eqb _ 0 w.if-size-eq0.true)
          | else-size-eq0 w ↦ inr (w.if-size-eq0.false, w.done-is)
        ]),
      ),
      c.in_ok-keep.ensures fits,
    )
