-- SHA-256, as FIPS 180-4 has it, over bytes: constants, padding, message schedule, rounds, digest.
-- A message is a list of bytes, a block 64 bytes of it, and bytes make a word high byte first. Blocks, words and rounds count from 0.
-- Assumes nothing.
use Rattle.std.specs.Prelude.{◌≡◌, ℕ, zero, suc, ◌+◌, ◌-◌, ◌*◌, ◌/◌, ◌%◌, ◌^◌, ◌≤◌, cond, List, [], ◌∷◌, ◌++◌, length, take, drop, replicate, nat_lt, slice_index}
use Rattle.sha256.specs.declared.rounds.State.{State}
use Rattle.sha256.specs.Words.{◌⊞◌, choose, majority, big_sigma0, big_sigma1, small_sigma0, small_sigma1}

-- K_0 .. K_63 (4.2.2)
unfoldable pub round_constants : List ℕ
round_constants =
    0x428a2f98 ∷ 0x71374491 ∷ 0xb5c0fbcf ∷ 0xe9b5dba5 ∷ 0x3956c25b ∷ 0x59f111f1 ∷ 0x923f82a4 ∷ 0xab1c5ed5 ∷
    0xd807aa98 ∷ 0x12835b01 ∷ 0x243185be ∷ 0x550c7dc3 ∷ 0x72be5d74 ∷ 0x80deb1fe ∷ 0x9bdc06a7 ∷ 0xc19bf174 ∷
    0xe49b69c1 ∷ 0xefbe4786 ∷ 0x0fc19dc6 ∷ 0x240ca1cc ∷ 0x2de92c6f ∷ 0x4a7484aa ∷ 0x5cb0a9dc ∷ 0x76f988da ∷
    0x983e5152 ∷ 0xa831c66d ∷ 0xb00327c8 ∷ 0xbf597fc7 ∷ 0xc6e00bf3 ∷ 0xd5a79147 ∷ 0x06ca6351 ∷ 0x14292967 ∷
    0x27b70a85 ∷ 0x2e1b2138 ∷ 0x4d2c6dfc ∷ 0x53380d13 ∷ 0x650a7354 ∷ 0x766a0abb ∷ 0x81c2c92e ∷ 0x92722c85 ∷
    0xa2bfe8a1 ∷ 0xa81a664b ∷ 0xc24b8b70 ∷ 0xc76c51a3 ∷ 0xd192e819 ∷ 0xd6990624 ∷ 0xf40e3585 ∷ 0x106aa070 ∷
    0x19a4c116 ∷ 0x1e376c08 ∷ 0x2748774c ∷ 0x34b0bcb5 ∷ 0x391c0cb3 ∷ 0x4ed8aa4a ∷ 0x5b9cca4f ∷ 0x682e6ff3 ∷
    0x748f82ee ∷ 0x78a5636f ∷ 0x84c87814 ∷ 0x8cc70208 ∷ 0x90befffa ∷ 0xa4506ceb ∷ 0xbef9a3f7 ∷ 0xc67178f2 ∷ []

-- H^(0), the initial hash value (5.3.3)
abbrev pub initial_hash : State
initial_hash = record {
  a = 0x6a09e667;
  b = 0xbb67ae85;
  c = 0x3c6ef372;
  d = 0xa54ff53a;
  e = 0x510e527f;
  f = 0x9b05688c;
  g = 0x1f83d9ab;
  h = 0x5be0cd19;
}

-- the four bytes of a word
unfoldable pub word_bytes : ℕ → List ℕ
word_bytes x = x / 2 ^ 24 % 256 ∷ x / 2 ^ 16 % 256 ∷ x / 2 ^ 8 % 256 ∷ x % 256 ∷ []

-- the eight bytes of a 64-bit number
abbrev pub long_bytes : ℕ → List ℕ
long_bytes x =
    x / 2 ^ 56 % 256 ∷ x / 2 ^ 48 % 256 ∷ x / 2 ^ 40 % 256 ∷ x / 2 ^ 32 % 256 ∷
    x / 2 ^ 24 % 256 ∷ x / 2 ^ 16 % 256 ∷ x / 2 ^ 8 % 256 ∷ x % 256 ∷ []

-- the number of zero bytes between the byte 0x80 and the length (5.1.1)
abbrev pub zero_bytes : ℕ → ℕ
zero_bytes n = (64 - (n + 1 + 8) % 64) % 64

-- what the standard asks of it: the least k ≥ 0 with n + 1 + k ≡ 56 modulo 64 (in bits, 448 modulo 512)
abbrev pub LeastZeros : Type 0
LeastZeros = (n : ℕ) → ((n + 1 + zero_bytes n) % 64 ≡ 56) × ((k : ℕ) → (n + 1 + k) % 64 ≡ 56 → zero_bytes n ≤ k)

-- what is appended to a message of n bytes: the bit 1, zeros, and the length in bits modulo 2^64 (5.1.1)
unfoldable pub padding : ℕ → List ℕ
padding n = (0x80 ∷ replicate (zero_bytes n) 0) ++ long_bytes ((n * 8) % 2 ^ 64)

-- the padded message
abbrev pub pad : List ℕ → List ℕ
pad m = m ++ padding (length m)

-- M^(i): block i of the padded message (5.2.1)
unfoldable pub block_at : List ℕ → ℕ → List ℕ
block_at m i = take 64 (drop (64 * i) m)

-- M_t: word t of a block
abbrev pub message_word : List ℕ → ℕ → ℕ
message_word block t =
    slice_index block (4 * t) * 2 ^ 24 + slice_index block (4 * t + 1) * 2 ^ 16 + slice_index block (4 * t + 2) * 2 ^ 8
    + slice_index block (4 * t + 3)

-- σ1(W_{t-2}) + W_{t-7} + σ0(W_{t-15}) + W_{t-16}
abbrev pub later_word : ℕ → ℕ → ℕ → ℕ → ℕ
later_word w2 w7 w15 w16 = small_sigma1 w2 ⊞ w7 ⊞ small_sigma0 w15 ⊞ w16

-- W_t, from the words before it: M_t where t < 16, and from there on the sum above (6.2.2, step 1)
unfoldable pub schedule_word : List ℕ → List ℕ → ℕ → ℕ
schedule_word block w t =
    cond (nat_lt t 16) (message_word block t)
    (later_word (slice_index w (t - 2)) (slice_index w (t - 7)) (slice_index w (t - 15)) (slice_index w (t - 16)))

-- the message schedule of a block: its words W_0 .. W_{n-1}
unfoldable pub schedule : List ℕ → ℕ → List ℕ
schedule block zero = []
schedule block (suc t) = schedule block t ++ schedule_word block (schedule block t) t ∷ []

-- T1 = h + Σ1(e) + Ch(e, f, g) + K_t + W_t (6.2.2, step 3)
abbrev pub temp1 : State → ℕ → ℕ → ℕ
temp1 v k w = v.h ⊞ big_sigma1 v.e ⊞ choose v.e v.f v.g ⊞ k ⊞ w

-- T2 = Σ0(a) + Maj(a, b, c)
abbrev pub temp2 : State → ℕ
temp2 v = big_sigma0 v.a ⊞ majority v.a v.b v.c

-- one round on the working variables, with the constant k and the schedule's word w
unfoldable pub one_round : State → ℕ → ℕ → State
one_round v k w = record {
  h = v.g;
  g = v.f;
  f = v.e;
  e = v.d ⊞ temp1 v k w;
  d = v.c;
  c = v.b;
  b = v.a;
  a = temp1 v k w ⊞ temp2 v;
}

-- the same of a pair of them
abbrev pub keyed_round : State → ℕ × ℕ → State
keyed_round v p = one_round v p.0 p.1

-- the working variables after the first n rounds over the schedule w
unfoldable pub after_rounds : State → List ℕ → ℕ → State
after_rounds v w zero = v
after_rounds v w (suc t) = one_round (after_rounds v w t) (slice_index round_constants t) (slice_index w t)

-- word by word, the sum of the working variables and the last hash value (6.2.2, step 4)
abbrev pub add_hash : State → State → State
add_hash v last = record {
  a = v.a ⊞ last.a;
  b = v.b ⊞ last.b;
  c = v.c ⊞ last.c;
  d = v.d ⊞ last.d;
  e = v.e ⊞ last.e;
  f = v.f ⊞ last.f;
  g = v.g ⊞ last.g;
  h = v.h ⊞ last.h;
}

-- the next hash value, after one block: 64 rounds over its schedule, added to the last hash value
abbrev pub next_hash : State → List ℕ → State
next_hash h block = add_hash (after_rounds h (schedule block 64) 64) h

-- the hash value after the first n blocks of m, from h on
unfoldable pub hashed : State → List ℕ → ℕ → State
hashed h m zero = h
hashed h m (suc i) = next_hash (hashed h m i) (block_at m i)

-- the digest's bytes: the eight words of a hash value, one after the other
unfoldable pub hash_bytes : State → List ℕ
hash_bytes h =
    word_bytes h.a ++ word_bytes h.b ++ word_bytes h.c ++ word_bytes h.d ++ word_bytes h.e
    ++ word_bytes h.f ++ word_bytes h.g ++ word_bytes h.h

-- SHA-256 of a message: the hash value after all blocks of the padded message
unfoldable pub sha256 : List ℕ → List ℕ
sha256 m = hash_bytes (hashed initial_hash (pad m) (length (pad m) / 64))
