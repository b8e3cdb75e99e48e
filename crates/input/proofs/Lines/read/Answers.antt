use Rattle.input.proofs.Kept.{IsRead, kept_fits, more_read, all_read, read_short, read_one, read_known}
use Rattle.input.proofs.Lines.read.Goals as goal

pub loop-preserved : goal.loop-preserved
loop-preserved g c =
    let inv = c.loop.invariant in
    let step = c.in_ok-take_part.ensures (kept_fits _ _ _ inv.3) in
    more_read _ _ _ inv.0 step.0 _ _ inv.1 inv.2 inv.3 step.2 _ c.if-branch.false step.1

line_read : (g : _) (c : goal.Then-branch g) → IsRead (g.R.Read.remaining c.args.self.now.from) (g.R.Read.remaining c.take_part.new.from) c.take_part.new.line.items
line_read g c =
    let inv = c.loop.invariant in
    let step = c.in_ok-take_part.ensures (kept_fits _ _ _ inv.3) in
    all_read _ _ _ inv.0 step.0 _ _ inv.1 inv.2 inv.3 step.2 _ c.if-branch.true step.1

pub returns-then-branch-clause-short : goal.returns-then-branch-clause-short
returns-then-branch-clause-short g c = read_short _ _ _ (line_read g c)

pub returns-then-branch-clause-one : goal.returns-then-branch-clause-one
returns-then-branch-clause-one g c = read_one _ _ _ (line_read g c)

pub returns-then-branch-clause-known : goal.returns-then-branch-clause-known
returns-then-branch-clause-known g c = read_known _ _ _ (line_read g c)

pub returns-then-branch-clause-rest : goal.returns-then-branch-clause-rest
returns-then-branch-clause-rest g c = (line_read g c).4
