use Rattle.std.proofs.Common.{◌≡◌, ◌≢◌, ℕ, List, All, take, vec_items}
use Rattle.std.specs.Io.KnownBytes.{Consumes}
use Rattle.input.specs.Line.{most}
use Rattle.input.proofs.Lines.read.Given as goal

-- the parts so far
abbrev pub invariant-loop : goal.invariant-loop
invariant-loop g l = (bs : List ℕ) × Consumes (g.R.Read.remaining l.initial.self.from) (g.R.Read.remaining l.self.from) bs × All (λ b. b ≢ 10) bs × (vec_items l.self.line ≡ take most bs)
