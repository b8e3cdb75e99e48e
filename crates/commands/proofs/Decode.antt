-- What `decode` comes to, way by way.
use Rattle.std.proofs.Common.{◌≡◌, ℕ, ◌<◌, ◌≤◌, false, ◌||◌, eqb, ltb, List, length, get_or, Ok, Err, arith}
use Rattle.commands.specs.declared.types.Command.{Command}
use Rattle.commands.specs.declared.reader.ReadError.TheVariants.{CutShort}
use Rattle.commands.specs.Bytes.{decode, size_as, read_as, command_at}

-- each kind takes so many
pub size_over : (k : ℕ) (b : List ℕ) → 17 ≤ size_as k b
size_over k b = grind arith

pub decode_short : (b : List ℕ) → length b < 14 → decode b ≡ Err CutShort
unfolding decode
decode_short b h = grind arith

module _ (b : List ℕ) (k : ℕ) (there : 14 ≤ length b) (is : get_or b 13 0 ≡ k) where
  pub decode_cut : (eqb k 0 || ltb 3 k) ≡ false → length b < size_as k b → decode b ≡ Err CutShort
  unfolding decode
  decode_cut u h = grind arith

  pub decode_whole : (eqb k 0 || ltb 3 k) ≡ false → size_as k b ≤ length b → decode b ≡ read_as (size_as k b) (command_at b)
  unfolding decode
  decode_whole u h = grind arith

-- where something was read, all of its bytes were there, and its kind is one of the three
module _ (b : List ℕ) (c : Command) (n : ℕ) (read : decode b ≡ Ok (c, n)) where
  pub read_known : (eqb (get_or b 13 0) 0 || ltb 3 (get_or b 13 0)) ≡ false
  unfolding decode
  read_known = grind arith

  pub read_size : n ≡ size_as (get_or b 13 0) b
  unfolding decode
  read_size = grind arith

  pub read_there : n ≤ length b
  unfolding decode
  read_there = grind arith

  pub read_command : command_at b ≡ Ok c
  unfolding decode
  read_command = grind arith
