-- Signed steps as numbers and back.
use Rattle.std.proofs.Common.{◌≡◌, ℕ, ◌^◌, ◌<◌, ℤ, arith, w32, SFits}
use Rattle.commands.specs.Bytes.{raised, lowered}

pub lowered-raised : (s : ℤ) → SFits w32 s → lowered (raised s) ≡ s
lowered-raised s f = grind arith

pub raised_fits : (s : ℤ) → SFits w32 s → raised s < 2 ^ 32
raised_fits s f = grind arith

pub raised-lowered : (n : ℕ) → n < 2 ^ 32 → raised (lowered n) ≡ n
raised-lowered n h = grind arith

pub lowered_fits : (n : ℕ) → n < 2 ^ 32 → SFits w32 (lowered n)
lowered_fits n h = grind arith
