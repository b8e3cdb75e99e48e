-- The numbers that words write in decimal digits. Assumes nothing.
use Rattle.std.specs.Prelude.{ℕ, ◌+◌, ◌-◌, ◌*◌, ◌^◌, Bool, true, cond, ◌&&◌, List, [], ◌∷◌, ℤ, pos, neg_ℤ, Some, None, Option, ◌==◌, nat_le, nat_lt}

-- one of the bytes `0` to `9`
unfoldable pub digit : ℕ → Bool
digit b = nat_le 48 b && nat_le b 57

unfoldable pub all_digits : List ℕ → Bool
all_digits [] = true
all_digits (b ∷ bs) = digit b && all_digits bs

-- the number that the digits bs write behind the number n
unfoldable pub value_after : ℕ → List ℕ → ℕ
value_after n [] = n
value_after n (b ∷ bs) = value_after (10 * n + (b - 48)) bs

-- the same, where they are digits and it is below 2^64
unfoldable pub read_after : ℕ → List ℕ → Option ℕ
read_after n bs = cond (all_digits bs && nat_lt (value_after n bs) (2 ^ 64)) (Some (value_after n bs)) None

-- the number n with one digit behind it
unfoldable pub appended : ℕ → ℕ → Option ℕ
appended n b = cond (digit b && nat_lt (10 * n + (b - 48)) (2 ^ 64)) (Some (10 * n + (b - 48))) None

-- the number that a word writes: at least one digit and nothing else, below 2^64
unfoldable pub number_of : List ℕ → Option ℕ
number_of [] = None
number_of (b ∷ bs) = read_after 0 (b ∷ bs)

-- a size upward and a size downward, as a step that fits 32 bits with a sign
unfoldable pub raised : Option ℕ → Option ℤ
raised None = None
raised (Some n) = cond (nat_lt n 2147483648) (Some (pos n)) None

unfoldable pub lowered : Option ℕ → Option ℤ
lowered None = None
lowered (Some n) = cond (nat_le n 2147483648) (Some (neg_ℤ (pos n))) None

-- the step that a word writes: digits, with `-` or `+` before them or neither
unfoldable pub step_of : List ℕ → Option ℤ
step_of [] = None
step_of (b ∷ bs) = cond (b == 45) (lowered (number_of bs)) (cond (b == 43) (raised (number_of bs)) (raised (number_of (b ∷ bs))))
