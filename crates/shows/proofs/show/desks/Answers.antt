use Rattle.std.proofs.Common.{get_or, refl, sym, ap, ◌∙◌, rules}
use Rattle.commands.proofs.Judged.{member_is}
use Rattle.shows.proofs.Desks.{given}
use Rattle.shows.proofs.show.desks.Goals as goal

pub returns : goal.returns
returns c =
    let new = c.new.ensures in
    let ds = c.args.desks.now in
    let judged = member_is (get_or ds 0 0) c.in-Ok.member (sym c.in-Ok.ensures) in (
      refl,
      (
        get_or ds 0 0,
        _,
        given c.args.show.now ds (sym c.if-is_some.ensures) (search rules) judged.0,
        refl,
        record { desk = refl; member = ap (λ m. m.id) new.1 ∙ judged.1; outside = search rules; waiting = new.3; stands = new.0 },
      ),
    )
