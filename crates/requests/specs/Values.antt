-- What words say as values. Assumes nothing.
use Rattle.std.specs.Prelude.{ℕ, ◌%◌, cond, List, [], ◌∷◌, length, ℤ, Some, None, Option, ◌==◌}
use Rattle.std.specs.Str.{bytes_eq}
use Rattle.hexadecimal.specs.Hex.{bytes_of}
use Rattle.text.specs.Numeral.{number_of, step_of}
use Rattle.reading.specs.Answer.{Answer, reads, cannot, ◌then◌, no_number, missing_number, too_many_words, odd_hexadecimal, no_hexadecimal}

-- `a` where the word is that name, and else `b`
abbrev pub if_named : {A : Type 0} → List ℕ → List ℕ → Answer A → Answer A → Answer A
if_named w name a b = cond (bytes_eq w name) a b

abbrev pub numeral : {N : Type 0} → List ℕ → Option N → Answer N
numeral w None = cannot (no_number w)
numeral w (Some n) = reads n

-- the first word, read by `value`, and the words behind it
abbrev pub a_numeral : {N : Type 0} → (List ℕ → Option N) → List (List ℕ) → Answer (N × List (List ℕ))
a_numeral value [] = cannot missing_number
a_numeral value (w ∷ ws) = numeral w (value w) then (λ n. reads (n, ws))

abbrev pub a_number : List (List ℕ) → Answer (ℕ × List (List ℕ))
a_number ws = a_numeral number_of ws

abbrev pub a_step : List (List ℕ) → Answer (ℤ × List (List ℕ))
a_step ws = a_numeral step_of ws

-- no word is left
abbrev pub the_end : List (List ℕ) → Answer (Unit {0})
the_end [] = reads tt
the_end (w ∷ ws) = cannot too_many_words

-- all words that are left, as numbers
abbrev pub numbers_said : List (List ℕ) → Answer (List ℕ)
numbers_said [] = reads []
numbers_said (w ∷ ws) = numeral w (number_of w) then (λ n. numbers_said ws then (λ ns. reads (n ∷ ns)))

abbrev pub digits_only : List ℕ → Option (List ℕ) → Answer (List ℕ)
digits_only w None = cannot (no_hexadecimal w)
digits_only w (Some bs) = reads bs

-- the bytes that a word writes in hexadecimal
abbrev pub hex_said : List ℕ → Answer (List ℕ)
hex_said w = cond (length w % 2 == 1) (cannot odd_hexadecimal) (digits_only w (bytes_of w))

-- the bytes of the one word that is left; no word is no bytes
abbrev pub bytes_said : List (List ℕ) → Answer (List ℕ)
bytes_said [] = reads []
bytes_said (w ∷ ws) = hex_said w then (λ bs. the_end ws then (λ _. reads bs))
