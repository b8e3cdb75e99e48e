-- The commands of a run, each made from a turn and the generator's last number, and the checksum of the levels.
use Rattle.std.specs.Prelude.{ℕ, zero, suc, ◌+◌, ◌*◌, ◌/◌, ◌%◌, ◌^◌, cond, List, [], ◌∷◌, ◌++◌, pos, ◌-ℤ◌, fold, Result, ◌==◌}
use Rattle.commands.specs.declared.types.Action.{Action}
use Rattle.commands.specs.declared.types.Command.{Command}
use Rattle.commands.specs.declared.types.Refusal.{Refusal}
use Rattle.commands.specs.Values.{and_then, member_or, set_or, move_or, scene_or, command_or}

-- one step of the generator; a draw is the high half of the number that it comes to
abbrev pub next_of : ℕ → ℕ
next_of x = (x * 1664525 + 1013904223) % 2 ^ 32

-- the generator's number some steps on
unfoldable pub steps_on : ℕ → ℕ → ℕ
steps_on x zero = x
steps_on x (suc n) = next_of (steps_on x n)

-- the next draws
unfoldable pub draws_from : ℕ → ℕ → List ℕ
draws_from x zero = []
draws_from x (suc n) = draws_from x n ++ (steps_on x (suc n) / 65536 ∷ [])

-- a scene of 1 to 32 levels: a draw says how many, and as many follow
abbrev pub scene_from : ℕ → ℕ → Result Action Refusal
scene_from channel x = scene_or channel (draws_from (next_of x) (next_of x / 65536 % 32 + 1))

-- what a turn's command does to the channel of the first draw: set, move and scene in turn
abbrev pub action_from : ℕ → ℕ → Result Action Refusal
action_from turn x =
    cond (turn % 3 == 0) (set_or (next_of x / 65536 % 512) (next_of (next_of x) / 65536))
    (cond (turn % 3 == 1) (move_or (next_of x / 65536 % 512) (pos (next_of (next_of x) / 65536) -ℤ pos 32768))
    (scene_from (next_of x / 65536 % 512) (next_of x)))

-- the command of a turn: eight members issue in turn
abbrev pub command_from : ℕ → ℕ → Result Command Refusal
command_from turn x = and_then (member_or (turn % 8)) (λ m. and_then (action_from turn x) (λ a. command_or 0 m (turn / 8 + 1) (turn + 1) a))

-- the levels as digits to the base 31, modulo 2^32
abbrev pub checksum_of : List ℕ → ℕ
checksum_of ls = fold (λ sum l. (sum * 31 + l) % 2 ^ 32) 0 ls
