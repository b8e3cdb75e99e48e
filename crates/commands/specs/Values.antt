-- Which values can be, and what is answered where one can't.
use Rattle.std.specs.Prelude.{◌≡◌, ℕ, ◌-◌, ◌^◌, ◌<◌, ◌≤◌, cond, ◌&&◌, List, [], ◌∷◌, ◌++◌, length, drop, replicate, ℤ, Some, None, Ok, Err, Option, Result, FitsSigned, ◌==◌, nat_le}
use Rattle.std.specs.Int.{w32}
use Rattle.std.specs.List.{AllByRecursion}
use Rattle.commands.specs.declared.types.MemberId.{MemberId}
use Rattle.commands.specs.declared.types.Channel.{Channel}
use Rattle.commands.specs.declared.types.Scene.{Scene}
use Rattle.commands.specs.declared.types.Action.{Action}
use Rattle.commands.specs.declared.types.Action.TheVariants.{Set, Move, Scene as OfScene}
use Rattle.commands.specs.declared.types.Command.{Command}
use Rattle.commands.specs.declared.types.Refusal.{Refusal}
use Rattle.commands.specs.declared.types.Refusal.TheVariants.{Member, Number, Stamp, Kind, Channel as OffChannel, Level, LevelCount}

-- a refusal as the table of refusals has it: its number there, and the value that can't be
abbrev pub row : Refusal → ℕ × ℕ
row (Member m) = (2, m)
row (Number n) = (2, n)
row (Stamp s) = (2, s)
row (Kind k) = (2, k)
row (OffChannel c) = (2, c)
row (Level l) = (2, l)
row (LevelCount n) = (2, n)

-- one thing and then another, or the first refusal
abbrev pub and_then : {X Y : Type 0} → Result X Refusal → (X → Result Y Refusal) → Result Y Refusal
and_then (Ok x) f = f x
and_then (Err e) f = Err e

-- members are 0 to 63
abbrev pub member_or : ℕ → Result MemberId Refusal
member_or m = cond (nat_le m 63) (Ok (record { id = m })) (Err (Member m))

-- channels are 0 to 511
abbrev pub channel_or : ℕ → Result Channel Refusal
channel_or c = cond (nat_le c 511) (Ok (record { index = c })) (Err (OffChannel c))

-- levels are 0 to 65,535
abbrev pub level_or : ℕ → Result ℕ Refusal
level_or l = cond (nat_le l 65535) (Ok l) (Err (Level l))

-- a scene has 1 to 32 levels
abbrev pub count_or : ℕ → Result ℕ Refusal
count_or n = cond (nat_le 1 n && nat_le n 32) (Ok n) (Err (LevelCount n))

-- the first of the levels that is above 65,535
abbrev pub first_high : List ℕ → Option ℕ
first_high [] = None
first_high (l ∷ ls) = cond (nat_le l 65535) (first_high ls) (Some l)

-- what was made, unless a level was too high
abbrev pub unless_high : {X : Type 0} → Option ℕ → X → Result X Refusal
unless_high None x = Ok x
unless_high (Some l) x = Err (Level l)

-- a scene's 32 places: its levels, then zeros
abbrev pub padded : List ℕ → List ℕ
padded ls = ls ++ replicate (32 - length ls) 0

abbrev pub set_or : ℕ → ℕ → Result Action Refusal
set_or channel level = and_then (channel_or channel) (λ c. and_then (level_or level) (λ l. Ok (Set c l)))

abbrev pub move_or : ℕ → ℤ → Result Action Refusal
move_or channel step = and_then (channel_or channel) (λ c. Ok (Move c step))

abbrev pub scene_or : ℕ → List ℕ → Result Action Refusal
scene_or first ls =
    and_then (channel_or first) (λ c. and_then (count_or (length ls)) (λ n. and_then (unless_high (first_high ls) (padded ls)) (λ ps. Ok (OfScene (record { first = c; count = n; levels = ps })))))

-- numbers and stamps begin at 1
abbrev pub command_or : ℕ → MemberId → ℕ → ℕ → Action → Result Command Refusal
command_or v m n s a =
    cond (n == 0) (Err (Number n)) (cond (s == 0) (Err (Stamp s)) (Ok (record { view = v; member = m; number = n; stamp = s; action = a })))

-- a scene that can be: 1 to 32 levels of 16 bits from a channel on, and zeros in the places past them
pub record ValidScene (s : Scene) : Type 0 where
  pub first : s.first.index ≤ 511
  pub some : 1 ≤ s.count
  pub few : s.count ≤ 32
  pub places : length s.levels ≡ 32
  pub words : AllByRecursion (λ l. l < 2 ^ 16) s.levels
  pub rest : drop s.count s.levels ≡ replicate (32 - s.count) 0

-- an action that can be
abbrev pub ValidAction : Action → Type 0
ValidAction (Set c l) = (c.index ≤ 511) × (l < 2 ^ 16)
ValidAction (Move c s) = (c.index ≤ 511) × FitsSigned w32 s
ValidAction (OfScene s) = ValidScene s

-- a command that can be: of a member 0 to 63, numbered and stamped from 1 on
pub record Valid (c : Command) : Type 0 where
  pub view : c.view < 2 ^ 32
  pub member : c.member.id ≤ 63
  pub numbered : 1 ≤ c.number
  pub number : c.number < 2 ^ 32
  pub stamped : 1 ≤ c.stamp
  pub stamp : c.stamp < 2 ^ 32
  pub action : ValidAction c.action
