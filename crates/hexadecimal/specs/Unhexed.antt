-- What reading a word of hexadecimal answers. Assumes nothing.
use Rattle.std.specs.Prelude.{◌≡◌, ℕ, ◌%◌, List, length, Some, None, Ok, Err, Result, Vec}
use Rattle.std.specs.Allocator.{alloc_error}
use Rattle.hex.specs.declared.error.FromHexError.{FromHexError}
use Rattle.hex.specs.declared.error.FromHexError.TheVariants as hex
use Rattle.hexadecimal.specs.Hex.{bytes_of}
use Rattle.hexadecimal.specs.declared.HexError.{HexError}
use Rattle.hexadecimal.specs.declared.HexError.TheVariants.{Odd, NoDigit, Memory}

-- which answer a word gets
abbrev pub Told : List ℕ → HexError → Type 0
Told word Odd = length word % 2 ≡ 1
Told word NoDigit = (length word % 2 ≡ 0) × (bytes_of word ≡ None)
Told word (Memory e) = Unit {0}

-- reading `word` answers `r`: all its bytes, or why not
abbrev pub Unhexed : {Z : Type 0} → List ℕ → Result (Vec ℕ Z) HexError → Type 0
Unhexed word (Ok v) = (length word % 2 ≡ 0) × (bytes_of word ≡ Some v.items)
Unhexed word (Err e) = Told word e

-- what the library's refusal is here
abbrev pub refusal_of : FromHexError → HexError
refusal_of hex.OddLength = Odd
refusal_of hex.OutOfMemory = Memory alloc_error
refusal_of (hex.InvalidHexCharacter c i) = NoDigit
refusal_of hex.InvalidStringLength = NoDigit
