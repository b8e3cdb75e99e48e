use Rattle.std.proofs.Common.{◌≡◌, ◌^◌, ◌<◌, drop}
use Rattle.text.specs.Numeral.{read_after}
use Rattle.text.proofs.numbers.U64FromWord.from_word.Given as goal

abbrev pub invariant-loop-b : goal.invariant-loop-b
invariant-loop-b l = (read_after l.n (drop l.b-index l.word) ≡ read_after 0 l.word) × (l.n < 2 ^ 64)
