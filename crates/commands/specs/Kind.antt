-- The kinds of actions, and their numbers in a command's bytes.
use Rattle.std.specs.Prelude.{ℕ, ◌+◌, ◌*◌, cond, Ok, Err, Result, ◌==◌}
use Rattle.commands.specs.declared.types.Kind.{Kind}
use Rattle.commands.specs.declared.types.Kind.TheVariants.{Set, Move, Scene}
use Rattle.commands.specs.declared.types.Refusal.{Refusal}
use Rattle.commands.specs.declared.types.Refusal.TheVariants.{Kind as NoKind}

-- the number that stands in the bytes
abbrev pub code_of : Kind → ℕ
code_of Set = 1
code_of Move = 2
code_of Scene = 3

-- how many bytes a command of the kind with this number takes, where a scene has n levels
abbrev pub sized : ℕ → ℕ → ℕ
sized kind n = cond (kind == 1) 18 (cond (kind == 2) 20 (17 + 2 * n))

-- the kind with this number
abbrev pub kind_or : ℕ → Result Kind Refusal
kind_or n = cond (n == 1) (Ok Set) (cond (n == 2) (Ok Move) (cond (n == 3) (Ok Scene) (Err (NoKind n))))
