use Rattle.std.proofs.Common.{◌≡◌, ◌++◌, vec_items}
use Rattle.text.specs.Cursor.{left}
use Rattle.reading.specs.Answer.{reads, ◌then◌}
use Rattle.requests.specs.Reader.{unread}
use Rattle.requests.specs.Values.{numbers_said}
use Rattle.requests.proofs.values.Reader.numbers.Given as goal

-- what is left to read, behind what was read, makes up all
abbrev pub invariant-loop-word : goal.invariant-loop-word
invariant-loop-word l =
    (numbers_said (left l.word-iterator) then (λ ns. reads (vec_items l.all ++ ns))) ≡ numbers_said (unread l.fn.self)
