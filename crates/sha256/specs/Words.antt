-- The operations of SHA-256 on 32-bit words, as FIPS 180-4 has them (sections 3.2 and 4.1.2).
-- Assumes nothing.
use Rattle.std.specs.Prelude.{ℕ, ◌+◌, ◌-◌, ◌*◌, ◌/◌, ◌%◌, ◌^◌, bit_and, bit_or, bit_xor}

infixl 65 ◌⊞◌
infixl 60 ◌⊕◌
-- x + y of the standard: the sum modulo 2^32
abbrev pub ◌⊞◌ : ℕ → ℕ → ℕ
x ⊞ y = (x + y) % 2 ^ 32

-- x ⊕ y: bitwise exclusive or
abbrev pub ◌⊕◌ : ℕ → ℕ → ℕ
x ⊕ y = bit_xor x y

-- ¬x: the bitwise complement
abbrev pub complement : ℕ → ℕ
complement x = 2 ^ 32 - 1 - x

-- SHR^n(x) = x >> n: the right shift by n bits
abbrev pub shr : ℕ → ℕ → ℕ
shr n x = x / 2 ^ n

-- x << n: the left shift by n bits, of which a word keeps the low 32
abbrev pub shl : ℕ → ℕ → ℕ
shl n x = (x * 2 ^ n) % 2 ^ 32

-- ROTR^n(x) = (x >> n) ∨ (x << 32 - n): the rotation to the right by n bits
abbrev pub rotr : ℕ → ℕ → ℕ
rotr n x = bit_or (shr n x) (shl (32 - n) x)

-- Ch(x, y, z) = (x ∧ y) ⊕ (¬x ∧ z)
abbrev pub choose : ℕ → ℕ → ℕ → ℕ
choose x y z = bit_and x y ⊕ bit_and (complement x) z

-- Maj(x, y, z) = (x ∧ y) ⊕ (x ∧ z) ⊕ (y ∧ z)
abbrev pub majority : ℕ → ℕ → ℕ → ℕ
majority x y z = bit_and x y ⊕ bit_and x z ⊕ bit_and y z

-- Σ0(x) = ROTR^2(x) ⊕ ROTR^13(x) ⊕ ROTR^22(x)
abbrev pub big_sigma0 : ℕ → ℕ
big_sigma0 x = rotr 2 x ⊕ rotr 13 x ⊕ rotr 22 x

-- Σ1(x) = ROTR^6(x) ⊕ ROTR^11(x) ⊕ ROTR^25(x)
abbrev pub big_sigma1 : ℕ → ℕ
big_sigma1 x = rotr 6 x ⊕ rotr 11 x ⊕ rotr 25 x

-- σ0(x) = ROTR^7(x) ⊕ ROTR^18(x) ⊕ SHR^3(x)
abbrev pub small_sigma0 : ℕ → ℕ
small_sigma0 x = rotr 7 x ⊕ rotr 18 x ⊕ shr 3 x

-- σ1(x) = ROTR^17(x) ⊕ ROTR^19(x) ⊕ SHR^10(x)
abbrev pub small_sigma1 : ℕ → ℕ
small_sigma1 x = rotr 17 x ⊕ rotr 19 x ⊕ shr 10 x
