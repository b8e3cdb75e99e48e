use Rattle.std.proofs.Common.{◌≡◌, length}
use Rattle.bench.specs.Work.{steps_on, draws_from}
use Rattle.bench.proofs.work.Draws.several.Given as goal

abbrev pub invariant-loop : goal.invariant-loop
invariant-loop l = record {
  last : l.self.last ≡ steps_on l.initial.self.last l.counter;
  drawn : l.all.items ≡ draws_from l.initial.self.last l.counter;
  length' : length l.all.items ≡ l.counter;
}
