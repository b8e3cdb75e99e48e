use Rattle.std.proofs.Common.{◌≡◌, ◌*◌, length, take}
use Rattle.sha256.specs.Sha256.{schedule}
use Rattle.sha256.proofs.schedule.schedule.Given as goal

abbrev pub invariant-message : goal.invariant-message
invariant-message l = (length l.w ≡ 64) × (take l.t l.w ≡ schedule l.block l.t)

abbrev pub invariant-eights : goal.invariant-eights
invariant-eights l = (length l.w ≡ 64) × (take (8 * l.i) l.w ≡ schedule l.block (8 * l.i))

abbrev pub invariant-later : goal.invariant-later
invariant-later l = (length l.w ≡ 64) × (take l.t l.w ≡ schedule l.block l.t)
