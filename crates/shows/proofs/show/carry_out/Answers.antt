use Rattle.std.proofs.Common.{cond, is_ok, Some, Ok, refl, ap, ◌∙◌}
use Rattle.std.proofs.lemmas.Result.{err_from_is_err_and}
use Rattle.shows.specs.Shows.{circle_or, entered}
use Rattle.shows.proofs.Desks.{carried}
use Rattle.shows.proofs.show.carry_out.Goals as goal

pub returns-in-Some : goal.returns-in-Some
returns-in-Some c = carried (Some c.of_desk.new.self) c.of_desk.result c.in-Some.is c.in-OfDesk.is (c.of_desk.new.self, refl, c.of_desk.ensures)

pub returns-in-Some-show : goal.returns-in-Some-show
returns-in-Some-show c =
    let x = c.in-Some-show.show in
    let answer = c.circle.ensures.value ∙ ap (circle_or x) c.deref-in-Some-show.ensures.value in
    carried (Some c.circle.new.self) c.circle.result c.in-Some-show.is c.in-Circle.is
    (c.circle.new.self, refl, (answer, c.circle.ensures.after ∙ ap (λ r. cond (is_ok r) (entered x) x) answer))

pub returns-in-Some-show-2 : goal.returns-in-Some-show-2
returns-in-Some-show-2 c = carried (Some c.settle.new.self) (Ok c.settle.result) c.in-Some-show-2.is c.in-Settle.is (c.settle.new.self, refl, (c.settle.result, refl, c.settle.ensures))

pub returns-in_ok-to_string-in-Some-show-3 : goal.returns-in_ok-to_string-in-Some-show-3
returns-in_ok-to_string-in-Some-show-3 c =
    carried _ _ c.in-Some-show-3.is c.in-Show.is (c.in-Some-show-3.show, refl, ((c.in_ok-to_string-in-Some-show-3.field-0, refl, c.in_ok-to_string-in-Some-show-3.ensures.ok), refl))

pub returns-in_err-to_string-in-Some-show-3 : goal.returns-in_err-to_string-in-Some-show-3
returns-in_err-to_string-in-Some-show-3 c =
    let p = err_from_is_err_and c.from_residual.result c.from_residual.ensures.1 in
    rw (p.1, p.2) (carried _ _ c.in-Some-show-3.is c.in-Show.is (c.in-Some-show-3.show, refl, (refl, refl)))
