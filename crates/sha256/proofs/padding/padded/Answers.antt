use Rattle.std.proofs.Common.{◌≡◌, ◌++◌, ℕ, take, replicate, append_assoc, arith, ◌∙◌, ap}
use Rattle.std.proofs.lemmas.List.{take-replicate}
use Rattle.sha256.specs.Sha256.{padding, zero_bytes}
use Rattle.sha256.proofs.padding.padded.Goals as goal

pub returns : goal.returns
unfolding padding
returns c =
    let z : c.zeros.result ≡ zero_bytes c.args.total = omega (arith, c.zeros.ensures.value) in
    let zs : take c.zeros.result (replicate {A = ℕ} 64 0) ≡ replicate {A = ℕ} (zero_bytes c.args.total) 0 = take-replicate c.zeros.result 64 0 (omega arith) ∙ ap (λ (n : ℕ). replicate n 0) z in
    let e1 : c.try_extend_from_slice.new.self.items ≡ c.new-end.result.items ++ c.args.tail.now = rw c.unwrap.ensures at c.try_extend_from_slice.ensures.ok in
    let e2 : c.try_extend_from_slice-2.new.self.items ≡ c.push.new.self.items ++ take c.zeros.result (replicate {A = ℕ} 64 0) = rw c.unwrap-2.ensures at c.try_extend_from_slice-2.ensures.ok in
    let e3 : c.try_extend_from_slice-3.new.self.items ≡ c.try_extend_from_slice-2.new.self.items ++ c.length_bytes.result = rw c.unwrap-3.ensures at c.try_extend_from_slice-3.ensures.ok in
    rw (e3, e2, zs, c.push.ensures.items, e1, c.new-end.ensures, c.length_bytes.ensures) (simp append_assoc)
