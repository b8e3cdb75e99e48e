-- What was written to the front of lent memory.
use Rattle.std.proofs.Common.{◌≡◌, ℕ, List, length, take, sym}
use Rattle.std.proofs.lemmas.List.{take_at}
use Rattle.commands.specs.Bytes.{over}

pub written : (out e : List ℕ) (n : ℕ) → n ≡ length e → take n (over out 0 e) ≡ e
unfolding over
written out e n h = take_at e _ n (sym h)
