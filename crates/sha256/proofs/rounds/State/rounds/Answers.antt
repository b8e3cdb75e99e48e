use Rattle.std.proofs.Common.{rules, ◌≡◌, ℕ, ◌∙◌, ◌/◌, length, ap, arith}
use Rattle.std.proofs.lemmas.Iterator.{YieldsList-from_slice, YieldsList-from_zip}
use Rattle.std.proofs.lemmas.Iterator.Consumers.{fold_from_yields_List}
use Rattle.std.specs.Simd.{first_chunks}
use Rattle.sha256.specs.Sha256.{round_constants}
use Rattle.sha256.proofs.Steps.{eights, rounds_in_eights}
use Rattle.sha256.proofs.rounds.State.rounds.Goals as goal

pub returns : goal.returns
returns c =
    let w = c.args.w.now in
    let count : length w / 8 ≡ 8 = omega (arith, c.told-w) in
    fold_from_yields_List _ eights c.args.self c.fold.result c.fold.ensures.ran
    (YieldsList-from_zip (YieldsList-from_slice (first_chunks 8 8 round_constants) cc)
    (YieldsList-from_slice (first_chunks 8 8 w)
    (c.zip.ensures.second.0 ∙ c.as_chunks.ensures.front ∙ ap (λ (n : ℕ). first_chunks 8 n w) count)))
    (λ a x b q k. search rules)
    ∙ rounds_in_eights c.args.self w c.told-w
