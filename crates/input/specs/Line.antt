-- What is kept of a line. Assumes nothing.
use Rattle.std.specs.Prelude.{◌≡◌, ◌≢◌, ℕ, Bool, List, All, length, take, Option, OnSome, MatchBool}
use Rattle.std.specs.Io.{StopsAt, IsEmptyOrEndsWith}
use Rattle.std.specs.Io.BufRead.{take_through, strip_last}
use Rattle.std.specs.Io.KnownBytes.{Consumes, IsAtEnd}

-- how many bytes are kept at most: one byte more than a line may have
abbrev pub most : ℕ
most = 12000001

-- the bytes through the first line feed, as far as they are kept
unfoldable pub kept : List ℕ → List ℕ
kept xs = take most (take_through 10 xs)

-- the same without the line feed
abbrev pub kept_line : List ℕ → List ℕ
kept_line xs = strip_last 10 (kept xs)

-- bs is taken from what is left; it is a part of a line, and its last if `done`: it ends at a line feed, or is empty and nothing is left
abbrev pub IsPart : Bool → List ℕ → Option (List ℕ) → Option (List ℕ) → Type 0
IsPart done bs was is = Consumes was is bs × StopsAt bs 10 × MatchBool done (IsEmptyOrEndsWith bs 10 × (length bs ≡ 0 → OnSome was (IsAtEnd is))) (All (λ b. b ≢ 10) bs)
