-- What the judgements of values come to.
use Rattle.std.proofs.Common.{◌≡◌, ℕ, ◌≤◌, Ok, Result, ap, ◌∙◌, arith}
use Rattle.commands.specs.declared.types.MemberId.{MemberId}
use Rattle.commands.specs.declared.types.Action.{Action}
use Rattle.commands.specs.declared.types.Refusal.{Refusal}
use Rattle.commands.specs.Values.{and_then, member_or, count_or, command_or}

pub member_is : (m : ℕ) (x : MemberId) → member_or m ≡ Ok x → (m ≤ 63) × (x.id ≡ m)
member_is m x h = grind arith

pub count_is : (n k : ℕ) → count_or n ≡ Ok k → (1 ≤ n) × (n ≤ 32) × (n ≡ k)
count_is n k h = grind arith

-- what comes of the first step comes of both
pub then_ok : {X Y : Type 0} (r : Result X Refusal) (f : X → Result Y Refusal) {x : X} {y : Result Y Refusal} → r ≡ Ok x → f x ≡ y → and_then r f ≡ y
then_ok r f p q = ap (λ s. and_then s f) p ∙ q

-- the same values make the same command
pub same_values : (m : MemberId) (a : Action) {v w n k s t : ℕ} → v ≡ w → n ≡ k → s ≡ t → command_or v m n s a ≡ command_or w m k t a
same_values m a p q r = cc
