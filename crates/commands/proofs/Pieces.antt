-- A list of bytes as pieces one after another.
use Rattle.std.proofs.Common.{◌≡◌, ℕ, zero, suc, ◌+◌, ◌*◌, ◌^◌, ◌<◌, ◌≤◌, List, [], ◌∷◌, ◌++◌, length, get_or, take, drop, refl, arith, take-add}
use Rattle.std.specs.List.{flat_map, AllByRecursion}
use Rattle.std.proofs.lemmas.Grind.{common_steps}
use Rattle.std.proofs.lemmas.List.{drop_more, drop-drop, get_or_past}
use Rattle.std.proofs.lemmas.Nat.{be_bytes_2, be_bytes_4}
use Rattle.std.proofs.ByRecursion.{All-get_or}
use Rattle.commands.specs.Bytes.{bytes2, bytes4, at2, at4, list_at}
use Rattle.commands.specs.Laws.{Bytes}

-- k bytes from i on
abbrev pub piece : List ℕ → ℕ → ℕ → List ℕ
piece b i k = take k (drop i b)

-- two pieces are one
pub piece_join : (b : List ℕ) (i j k n m : ℕ) → n ≡ i + j → m ≡ j + k → piece b i j ++ piece b n k ≡ piece b i m
piece_join b i j k n m e f = grind (arith, common_steps, take-add, drop-drop)

module _ (b : List ℕ) (bytes : Bytes b) where
  byte_at : (i : ℕ) → get_or b i 0 < 256
  byte_at i = grind (arith, common_steps, All-get_or, get_or_past)

  piece_bytes : (i k j : ℕ) → get_or (piece b i k) j 0 < 256
  piece_bytes i k j = let h = byte_at (i + j) in grind (arith, common_steps, get_or_past)

  pub two_below : (i : ℕ) → at2 b i < 2 ^ 16
  two_below i = let x = byte_at i in let y = byte_at (i + 1) in omega arith

  pub four_below : (i : ℕ) → at4 b i < 2 ^ 32
  four_below i = let x = byte_at i in let y = byte_at (i + 1) in let z = byte_at (i + 2) in let w = byte_at (i + 3) in omega arith

  pub words_below : (i n : ℕ) → AllByRecursion (λ l. l < 2 ^ 16) (list_at b i n)
  words_below i zero = tt
  words_below i (suc n) = (two_below i, words_below (i + 2) n)

  pub piece1 : (i : ℕ) → i + 1 ≤ length b → get_or b i 0 ∷ [] ≡ piece b i 1
  piece1 i h = grind (arith, drop_more)

  pub piece2 : (i : ℕ) → i + 2 ≤ length b → bytes2 (at2 b i) ≡ piece b i 2
  piece2 i h = be_bytes_2 (piece b i 2) (at2 b i) (grind (arith, common_steps)) (piece_bytes i 2) (grind (arith, drop_more))

  pub piece4 : (i : ℕ) → i + 4 ≤ length b → bytes4 (at4 b i) ≡ piece b i 4
  piece4 i h = be_bytes_4 (piece b i 4) (at4 b i) (grind (arith, common_steps)) (piece_bytes i 4) (grind (arith, drop_more))

  pub pieces : (n i m : ℕ) → i + 2 * n ≤ length b → m ≡ 2 * n → flat_map bytes2 (list_at b i n) ≡ piece b i m
  pieces zero i m h e = grind arith
  pieces (suc n) i m h e = let p = piece2 i (omega arith) in let q = pieces n (i + 2) (2 * n) (omega arith) refl in let j = piece_join b i 2 (2 * n) (i + 2) m refl (omega arith) in grind arith
