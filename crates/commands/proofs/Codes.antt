-- What the number of a kind says.
use Rattle.std.proofs.Common.{◌≡◌, ℕ, true, false, ◌||◌, eqb, ltb, Ok, Err, arith}
use Rattle.commands.specs.declared.types.Kind.{Kind}
use Rattle.commands.specs.declared.types.Refusal.{Refusal}
use Rattle.commands.specs.declared.types.Refusal.TheVariants.{Kind as NoKind}
use Rattle.commands.specs.Kind.{code_of, kind_or}

pub kind_is : (n : ℕ) (k : Kind) → kind_or n ≡ Ok k → n ≡ code_of k
kind_is n k h = grind arith

pub kind_known : (n : ℕ) (k : Kind) → kind_or n ≡ Ok k → (eqb n 0 || ltb 3 n) ≡ false
kind_known n k h = grind arith

pub kind_none : (n : ℕ) (e : Refusal) → kind_or n ≡ Err e → ((eqb n 0 || ltb 3 n) ≡ true) × (NoKind n ≡ e)
kind_none n e h = grind arith
