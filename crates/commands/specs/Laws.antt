-- The laws of a command's bytes, for the front of a longer list too, and of the makers.
use Rattle.std.specs.Prelude.{◌≡◌, ℕ, ◌^◌, ◌<◌, ◌≤◌, List, ◌++◌, length, take, ℤ, Ok, Err, FitsSigned}
use Rattle.std.specs.Int.{w32}
use Rattle.std.specs.List.{AllByRecursion}
use Rattle.commands.specs.declared.types.MemberId.{MemberId}
use Rattle.commands.specs.declared.types.Channel.{Channel}
use Rattle.commands.specs.declared.types.Action.{Action}
use Rattle.commands.specs.declared.types.Command.{Command}
use Rattle.commands.specs.declared.reader.ReadError.TheVariants.{CutShort}
use Rattle.commands.specs.Values.{Valid, ValidAction, member_or, channel_or, set_or, move_or, scene_or, command_or}
use Rattle.commands.specs.Bytes.{encode, decode}

-- a list of bytes
abbrev pub Bytes : List ℕ → Type 0
Bytes b = AllByRecursion (λ x. x < 2 ^ 8) b

-- what was written is read back, and no byte behind it is touched
abbrev pub ReadsBack : Type 0
ReadsBack = (c : Command) (rest : List ℕ) → Valid c → decode (encode c ++ rest) ≡ Ok (c, length (encode c))

-- no command's bytes are the beginning of another's
abbrev pub PrefixFree : Type 0
PrefixFree = (c d : Command) (r s : List ℕ) → Valid c → Valid d → encode c ++ r ≡ encode d ++ s → (c ≡ d) × (r ≡ s)

-- a command cut short is never read
abbrev pub CutIsCut : Type 0
CutIsCut = (c : Command) (k : ℕ) → Valid c → k < length (encode c) → decode (take k (encode c)) ≡ Err CutShort

-- only valid commands are read, and the bytes that were read are just those of the command
abbrev pub OnlyValid : Type 0
OnlyValid = (b : List ℕ) (c : Command) (n : ℕ) → Bytes b → decode b ≡ Ok (c, n) → Valid c × (n ≤ length b) × (encode c ≡ take n b)

-- a command's bytes are bytes, 18 to 81 of them
abbrev pub AreBytes : Type 0
AreBytes = (c : Command) → Valid c → Bytes (encode c) × (18 ≤ length (encode c)) × (length (encode c) ≤ 81)

-- what the makers make is valid
pub record Makers : Type 0 where
  pub member : (m : ℕ) (x : MemberId) → member_or m ≡ Ok x → x.id ≤ 63
  pub channel : (c : ℕ) (x : Channel) → channel_or c ≡ Ok x → x.index ≤ 511
  pub set : (c l : ℕ) (a : Action) → set_or c l ≡ Ok a → ValidAction a
  pub move : (c : ℕ) (s : ℤ) (a : Action) → FitsSigned w32 s → move_or c s ≡ Ok a → ValidAction a
  pub scene : (c : ℕ) (ls : List ℕ) (a : Action) → scene_or c ls ≡ Ok a → ValidAction a
  pub command : (v : ℕ) (m : MemberId) (n s : ℕ) (a : Action) (c : Command) → v < 2 ^ 32 → m.id ≤ 63 → n < 2 ^ 32 → s < 2 ^ 32 → ValidAction a → command_or v m n s a ≡ Ok c → Valid c
