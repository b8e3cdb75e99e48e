-- The laws of histories.
use Rattle.std.specs.Prelude.{◌≡◌, ℕ, ◌%◌, ◌^◌, List, [], ◌∷◌, ◌++◌, length}
use Rattle.history.specs.declared.Record.{Record}
use Rattle.history.specs.declared.Event.{Event}
use Rattle.history.specs.History.{levels_after, record_after, levels_from, record_from, levels_of, record_of}

-- a history in two parts: the second goes on from what the first made
pub record InTwoParts : Type 0 where
  pub levels : (ls : List ℕ) (es fs : List Event) → levels_from ls (es ++ fs) ≡ levels_from (levels_from ls es) fs
  pub record' : (r : Record) (es fs : List Event) → record_from r (es ++ fs) ≡ record_from (record_from r es) fs

-- one event more at the end
pub record OneMore : Type 0 where
  pub levels : (es : List Event) (e : Event) → levels_of (es ++ (e ∷ [])) ≡ levels_after (levels_of es) e
  pub record' : (es : List Event) (e : Event) → record_of (es ++ (e ∷ [])) ≡ record_after (record_of es) e

-- equal histories have equal levels, count and digest
pub record SameMakesSame : Type 0 where
  pub levels : (es fs : List Event) → es ≡ fs → levels_of es ≡ levels_of fs
  pub count : (es fs : List Event) → es ≡ fs → (record_of es).count ≡ (record_of fs).count
  pub digest : (es fs : List Event) → es ≡ fs → (record_of es).digest ≡ (record_of fs).digest

-- the count is the number of events, modulo 2^64
abbrev pub Counts : Type 0
Counts = (es : List Event) → (record_of es).count ≡ length es % 2 ^ 64

-- there are always 512 levels
abbrev pub KeepsWidth : Type 0
KeepsWidth = (es : List Event) → length (levels_of es) ≡ 512
