use Rattle.std.proofs.Common.{rules, ◌∙◌}
use Rattle.text.proofs.Decimal.{step_minus, step_plus, step_plain}
use Rattle.text.proofs.numbers.I32FromWord.from_word.Goals.{in-45+in_ok-from_word-in-45, in-43+in_ok-from_word-in-43, in_default+in_ok-from_word-in_default}
use Rattle.text.proofs.numbers.I32FromWord.from_word.Goals as goal

pub returns : goal.returns
returns c =
    elim c.match-first.branch [
      | in-45+in_ok-from_word-in-45 w ↦ search (rules, step_minus)
      | in-43+in_ok-from_word-in-43 w ↦ search (rules, step_plus)
      | in_default+in_ok-from_word-in_default w ↦
          c.ok.ensures.value
          ∙ step_plain _ c.in_ok-first.first.now c.in_ok-first.digits.now (search rules) w.in_ok-from_word-in_default.field-0 _ _ c.try_from.ensures (search rules) (search rules) (search rules) (search rules)
    ]
