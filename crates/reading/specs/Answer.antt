-- What is read, or why it cannot be. Assumes nothing.
use Rattle.std.specs.Prelude.{ℕ, List}

-- why a line cannot be read, with the word that stood there
pub data Why : Type 0 where
  unknown_word : List ℕ → Why
  missing_word : Why
  no_number : List ℕ → Why
  missing_number : Why
  too_many_words : Why
  odd_hexadecimal : Why
  no_hexadecimal : List ℕ → Why

pub data Answer (A : Type 0) : Type 0 where
  reads : A → Answer A
  cannot : Why → Answer A

infixr 20 ◌then◌
-- what follows, where the first could be read
abbrev pub ◌then◌ : {A B : Type 0} → Answer A → (A → Answer B) → Answer B
reads a then f = f a
cannot w then f = cannot w
