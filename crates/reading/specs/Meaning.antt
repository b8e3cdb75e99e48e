-- What the code's answers mean. Assumes nothing.
use Rattle.std.specs.Prelude.{◌≡◌, ℕ, List, Ok, Err, Result}
use Rattle.std.specs.Borrow.{Bor}
use Rattle.hexadecimal.specs.declared.HexError.{HexError}
use Rattle.hexadecimal.specs.declared.HexError.TheVariants.{Odd, NoDigit}
use Rattle.hexadecimal.specs.declared.HexError.TheVariants as hex
use Rattle.reading.specs.declared.unreadable.Reason.{Reason}
use Rattle.reading.specs.declared.unreadable.Reason.TheVariants.{UnknownWord, MissingWord, NoNumber, MissingNumber, TooManyWords, OddHexadecimal, NoHexadecimal}
use Rattle.reading.specs.declared.unreadable.ReadError.{ReadError}
use Rattle.reading.specs.declared.unreadable.ReadError.TheVariants.{Unreadable, Memory}
use Rattle.reading.specs.Answer.{Answer, reads, cannot, Why, unknown_word, missing_word, no_number, missing_number, too_many_words, odd_hexadecimal, no_hexadecimal}

abbrev pub why_of : Reason → Why
why_of (UnknownWord w) = unknown_word w.now
why_of MissingWord = missing_word
why_of (NoNumber w) = no_number w.now
why_of MissingNumber = missing_number
why_of TooManyWords = too_many_words
why_of OddHexadecimal = odd_hexadecimal
why_of (NoHexadecimal w) = no_hexadecimal w.now

-- the refusal of a word by what `unhex` says of it
abbrev pub hex_error : Bor (List ℕ) → HexError → ReadError
hex_error w Odd = Unreadable OddHexadecimal
hex_error w NoDigit = Unreadable (NoHexadecimal w)
hex_error w (hex.Memory e) = Memory e

-- the refusal `e` is the answer `a`; want of memory says nothing of the line
unfoldable pub Refuses : {A : Type 0} → Answer A → ReadError → Type 0
Refuses a (Unreadable e) = a ≡ cannot (why_of e)
Refuses a (Memory e) = Unit {0}

-- `r` is the answer `a`, where its value means what `m` says
abbrev pub Tells : {R A : Type 0} → (R → A) → Answer A → Result R ReadError → Type 0
Tells m a (Ok x) = a ≡ reads (m x)
Tells m a (Err e) = Refuses a e
