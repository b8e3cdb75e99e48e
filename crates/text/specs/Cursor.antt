-- The words that are left to read, and what reading the next one does. Assumes nothing.
use Rattle.std.specs.Prelude.{◌≡◌, ℕ, ◌<◌, List, [], ◌∷◌, length, Some, None, Option}
use Rattle.std.specs.Borrow.{Bor}
use Rattle.text.specs.Line.{words}
use Rattle.text.specs.declared.words.Words.{Words}

-- the words that are left
abbrev pub left : Words → List (List ℕ)
left ws = words ws.rest.now

-- how many bytes are left to read
abbrev pub bytes_left : Words → ℕ
bytes_left ws = length ws.rest.now

-- from `was` the next word is `r`, and `is` has the others
abbrev pub Next : Words → Option (Bor (List ℕ)) → Words → Type 0
Next was None is = (left was ≡ []) × (left is ≡ [])
Next was (Some w) is = (left was ≡ w.now ∷ left is) × (bytes_left is < bytes_left was)
