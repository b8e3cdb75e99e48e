use Rattle.std.proofs.Common.{◌≡◌, ◌*◌, ℕ, List, [], refl, ap, sym, ◌∙◌, drop, take, get_or, length, ◌/◌, arith, length-set}
use Rattle.std.proofs.lemmas.List.{take_all}
use Rattle.sha256.specs.Sha256.{schedule}
use Rattle.sha256.proofs.Steps.{first_more, later_more, word_at}
use Rattle.sha256.proofs.Chunks.{get_or-first_chunks}
use Rattle.sha256.proofs.schedule.schedule.Goals as goal

pub message-init : goal.message-init
unfolding schedule
message-init c = (refl, refl)

pub message-preserved : goal.message-preserved
message-preserved c =
    let t = c.message.t in
    let block = c.args.block.now in
    let word : get_or c.as_chunks.result.0.now t [] ≡ take 4 (drop (4 * t) block) =
    ap (λ (xs : List (List ℕ)). get_or xs t []) c.as_chunks.ensures.front ∙ get_or-first_chunks 4 (length block / 4) t block [] (omega arith) in (
      simp length-set c.message.invariant.0,
      first_more block c.message.w t c.from_be_bytes.result (omega arith) c.message.invariant.1 (omega arith) (c.from_be_bytes.ensures ∙ rw word (word_at block t)),
    )

pub eights-init : goal.eights-init
eights-init c = let done : c.message.t ≡ 16 = omega arith in (c.message.invariant.0, rw done at c.message.invariant.1)

pub later-preserved : goal.later-preserved
later-preserved c =
    (simp length-set c.later.invariant.0, later_more c.args.block.now c.later.w c.later.t _ (omega arith) c.later.invariant.1 (omega arith) c.later_word.ensures)

pub returns : goal.returns
returns c =
    let done : 8 * c.eights.i ≡ 64 = omega arith in
    sym (take_all (8 * c.eights.i) c.eights.w (omega arith))
    ∙ c.eights.invariant.1
    ∙ ap (λ (n : ℕ). schedule c.args.block.now n) done
