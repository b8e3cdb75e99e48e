use Rattle.std.proofs.Common.{[], ◌++◌, vec_items, sym, ap, ◌∙◌, append-nil}
use Rattle.reading.specs.Shown.{what_of, quoted_if, text_of}
use Rattle.reading.specs.Meaning.{why_of}
use Rattle.reading.proofs.Pieces.{cut_short, behind_piece}
use Rattle.reading.proofs.unreadable.append.Goals as goal

pub returns-in_err-extend_from_slice : goal.returns-in_err-extend_from_slice
returns-in_err-extend_from_slice c =
    cut_short (vec_items c.args.out.now) (text_of (why_of c.args.reason)) [] _ c.from_residual.result c.from_residual.ensures.0
    (c.in_err-extend_from_slice.ensures.items ∙ sym (append-nil _))

pub returns-in-Some : goal.returns-in-Some
unfolding text_of
returns-in-Some c =
    let why = why_of c.args.reason in
    behind_piece (vec_items c.args.out.now) (text_of why) (what_of why) _ _ _ c.quoted.result
    (c.in_ok-extend_from_slice.ensures.items ∙ ap (λ l. vec_items c.args.out.now ++ l) c.what.ensures)
    (ap (λ o. what_of why ++ quoted_if o) (sym c.in-Some.ensures))
    c.quoted.ensures

pub returns-in-None : goal.returns-in-None
unfolding text_of
returns-in-None c =
    let why = why_of c.args.reason in
    c.in_ok-extend_from_slice.ensures.items
    ∙ ap (λ l. vec_items c.args.out.now ++ l) (c.what.ensures ∙ sym (append-nil (what_of why)) ∙ ap (λ o. what_of why ++ quoted_if o) c.in-None.ensures)
