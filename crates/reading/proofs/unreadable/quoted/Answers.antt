use Rattle.std.proofs.Common.{[], ◌++◌, vec_items, codes, sym, refl, ap, ◌∙◌, append_assoc, append-nil}
use Rattle.reading.specs.Shown.{printable, in_quotes}
use Rattle.reading.proofs.Pieces.{cut_short, cut_within, last_piece}
use Rattle.reading.proofs.unreadable.quoted.Goals as goal

pub returns-in_err-extend_from_slice : goal.returns-in_err-extend_from_slice
returns-in_err-extend_from_slice c =
    cut_short (vec_items c.args.out.now) (in_quotes c.args.word.now) [] _ c.from_residual.result c.from_residual.ensures.0
    (c.in_err-extend_from_slice.ensures.items ∙ sym (append-nil _))

pub returns-in_err-push_printable : goal.returns-in_err-push_printable
returns-in_err-push_printable c =
    let r = c.from_residual-in_err-push_printable in
    cut_within (vec_items c.args.out.now) (in_quotes c.args.word.now) _ _ _ r.result r.ensures.0
    c.in_ok-extend_from_slice.ensures.items
    c.in_err-push_printable.ensures

pub returns : goal.returns
unfolding in_quotes
returns c =
    last_piece (vec_items c.args.out.now) (in_quotes c.args.word.now) (codes " '" ++ printable c.args.word.now) (codes "'") _ _ c.extend_from_slice-2.result
    (c.in_ok-push_printable.ensures ∙ ap (λ l. l ++ printable c.args.word.now) c.in_ok-extend_from_slice.ensures.items ∙ append_assoc (vec_items c.args.out.now) (codes " '") (printable c.args.word.now))
    refl
    c.extend_from_slice-2.ensures.items
