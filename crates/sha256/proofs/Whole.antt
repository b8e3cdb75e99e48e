-- Hashing a message in two parts, its whole blocks and what is left, is hashing it whole.
-- Assumes nothing.
use Rattle.std.proofs.Common.{◌≡◌, ℕ, zero, suc, ◌+◌, ◌*◌, ◌/◌, ◌≤◌, List, [], ◌∷◌, ◌++◌, length, drop, sym, refl, ap, ◌∙◌, fold, arith, length-drop, length-append}
use Rattle.std.proofs.lemmas.List.{drop-append-le}
use Rattle.std.proofs.lemmas.List.Sums.{fold-append}
use Rattle.std.specs.Simd.{first_chunks}
use Rattle.sha256.specs.declared.rounds.State.{State}
use Rattle.sha256.specs.Sha256.{block_at, next_hash, hashed}
use Rattle.sha256.proofs.Chunks.{first_chunks-add, first_chunks-append}

chunk_more : (m : List ℕ) (n : ℕ) → first_chunks 64 (suc n) m ≡ first_chunks 64 n m ++ block_at m n ∷ []
unfolding block_at
chunk_more m n = let e : suc n ≡ n + 1 = omega arith in ap (λ (k : ℕ). first_chunks 64 k m) e ∙ first_chunks-add 64 n 1 m

hashed_is : (h : State) (m : List ℕ) (n : ℕ) → hashed h m n ≡ fold next_hash h (first_chunks 64 n m)
unfolding hashed
hashed_is h m zero = refl
hashed_is h m (suc n) =
    ap (λ (s : State). next_hash s (block_at m n)) (hashed_is h m n)
    ∙ sym (fold-append next_hash h (first_chunks 64 n m) (block_at m n ∷ []))
    ∙ ap (fold next_hash h) (sym (chunk_more m n))

-- a message m is hashed with q behind it: first its whole blocks, then the tail that they leave, with q
module _ (h : State) (m q : List ℕ) where
  blocks : ℕ
  blocks = length m / 64

  rest : List ℕ
  rest = drop (64 * blocks) m ++ q

  count : length (m ++ q) / 64 ≡ blocks + length rest / 64
  unfolding blocks rest
  count = simp (length-append, length-drop) (omega arith)

  in_chunks : first_chunks 64 (length (m ++ q) / 64) (m ++ q) ≡ first_chunks 64 blocks m ++ first_chunks 64 (length rest / 64) rest
  unfolding blocks rest
  in_chunks =
      let fits : 64 * blocks ≤ length m = omega arith in
      ap (λ (n : ℕ). first_chunks 64 n (m ++ q)) count
      ∙ first_chunks-add 64 blocks (length rest / 64) (m ++ q)
      ∙ ap (λ (xs : List (List ℕ)). xs ++ first_chunks 64 (length rest / 64) (drop (64 * blocks) (m ++ q))) (first_chunks-append 64 blocks m q fits)
      ∙ ap (λ (xs : List ℕ). first_chunks 64 blocks m ++ first_chunks 64 (length rest / 64) xs) (drop-append-le (64 * blocks) m q fits)

  pub hashed_parts : hashed h (m ++ q) (length (m ++ q) / 64)
      ≡ fold next_hash (fold next_hash h (first_chunks 64 (length m / 64) m))
      (first_chunks 64 (length (drop (length m / 64 * 64) m ++ q) / 64) (drop (length m / 64 * 64) m ++ q))
  unfolding blocks rest
  hashed_parts =
      let e : length m / 64 * 64 ≡ 64 * (length m / 64) = omega arith in
      rw e (hashed_is h (m ++ q) (length (m ++ q) / 64)
      ∙ ap (fold next_hash h) in_chunks
      ∙ fold-append next_hash h (first_chunks 64 blocks m) (first_chunks 64 (length rest / 64) rest))
