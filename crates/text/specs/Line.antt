-- The words of a line of bytes, its line feed cut off. Assumes nothing.
use Rattle.std.specs.Prelude.{ℕ, ◌-◌, Bool, cond, ◌||◌, List, [], ◌∷◌, ◌++◌, length, take, ◌==◌, slice_index}

-- space and tab stand between words
abbrev pub blank : ℕ → Bool
blank b = b == 32 || b == 9

-- the word that ends here, if one was begun
abbrev pub ended : List ℕ → List (List ℕ)
ended [] = []
ended (b ∷ w) = (b ∷ w) ∷ []

-- the words of the bytes that follow w, the begun part of a word
unfoldable pub words_after : List ℕ → List ℕ → List (List ℕ)
words_after w [] = ended w
words_after w (b ∷ bs) = cond (blank b) (ended w ++ words_after [] bs) (words_after (w ++ b ∷ []) bs)

-- the words of the bytes: the longest runs without a blank, in their order
unfoldable pub words : List ℕ → List (List ℕ)
words bs = words_after [] bs

-- the bytes before the first `#`, which begins a comment
unfoldable pub before_comment : List ℕ → List ℕ
before_comment [] = []
before_comment (b ∷ bs) = cond (b == 35) [] (b ∷ before_comment bs)

-- the line without a carriage return at its very end
unfoldable pub without_return : List ℕ → List ℕ
without_return bs = cond (slice_index bs (length bs - 1) == 13) (take (length bs - 1) bs) bs

-- what of a line has its words: no carriage return at the end, no comment
unfoldable pub plain : List ℕ → List ℕ
plain line = before_comment (without_return line)
