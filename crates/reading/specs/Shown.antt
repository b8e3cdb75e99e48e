-- The text of the reasons why a line cannot be read. Assumes nothing.
use Rattle.std.specs.Prelude.{◌≡◌, ℕ, cond, ◌&&◌, List, [], ◌++◌, map, length, take, Some, None, Ok, Err, codes, Option, Result, nat_le}
use Rattle.reading.specs.Answer.{Why, unknown_word, missing_word, no_number, missing_number, too_many_words, odd_hexadecimal, no_hexadecimal}

-- a byte that prints, or `?`
abbrev pub shown : ℕ → ℕ
shown b = cond (nat_le 32 b && nat_le b 126) b 63

unfoldable pub printable : List ℕ → List ℕ
printable bs = map shown bs

-- ` 'word'`
unfoldable pub in_quotes : List ℕ → List ℕ
in_quotes word = codes " '" ++ (printable word ++ codes "'")

-- what is wrong, and the word at which it is, if there is one
abbrev pub what_of : Why → List ℕ
what_of (unknown_word w) = codes "unknown word"
what_of missing_word = codes "missing word"
what_of (no_number w) = codes "no number"
what_of missing_number = codes "missing number"
what_of too_many_words = codes "too many words"
what_of odd_hexadecimal = codes "odd hexadecimal"
what_of (no_hexadecimal w) = codes "no hexadecimal"

abbrev pub word_of : Why → Option (List ℕ)
word_of (unknown_word w) = Some w
word_of missing_word = None
word_of (no_number w) = Some w
word_of missing_number = None
word_of too_many_words = None
word_of odd_hexadecimal = None
word_of (no_hexadecimal w) = Some w

abbrev pub quoted_if : Option (List ℕ) → List ℕ
quoted_if None = []
quoted_if (Some w) = in_quotes w

-- the reason as it is printed: `what`, or `what 'word'`
unfoldable pub text_of : Why → List ℕ
text_of w = what_of w ++ quoted_if (word_of w)

-- `was` has become `is`: with the whole text behind it, or where memory failed with some bytes behind it
abbrev pub Appended : {E : Type 0} → List ℕ → List ℕ → Result (Unit {0}) E → List ℕ → Type 0
Appended was text (Ok _) is = is ≡ was ++ text
Appended was text (Err _) is = take (length was) is ≡ was
