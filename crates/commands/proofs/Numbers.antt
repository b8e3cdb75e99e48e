-- Numbers read from their bytes, and levels one after another.
use Rattle.std.proofs.Common.{◌≡◌, ℕ, zero, suc, ◌+◌, ◌-◌, ◌*◌, ◌<◌, ◌≤◌, List, [], ◌∷◌, ◌++◌, length, get_or, take, drop, set, replicate, refl, sym, ap, ◌∙◌, append_assoc, arith}
use Rattle.std.specs.Int.{w16, w32, from_be_bytes}
use Rattle.std.proofs.lemmas.Grind.{common_steps}
use Rattle.std.proofs.lemmas.List.{drop_more, set_at, drop-replicate}
use Rattle.commands.specs.Values.{padded}
use Rattle.commands.specs.Bytes.{at2, at4, list_at}

-- two bytes and four from a place on
two_bytes : (b : List ℕ) (i : ℕ) → i + 2 ≤ length b → take 2 (drop i b) ≡ get_or b i 0 ∷ get_or b (i + 1) 0 ∷ []
two_bytes b i h = grind (arith, drop_more)

four_bytes : (b : List ℕ) (i : ℕ) → i + 4 ≤ length b → take 4 (drop i b) ≡ get_or b i 0 ∷ get_or b (i + 1) 0 ∷ get_or b (i + 2) 0 ∷ get_or b (i + 3) 0 ∷ []
four_bytes b i h = grind (arith, drop_more)

-- the numbers of one, two and four
pub number_at1 : (b : List ℕ) (i : ℕ) {xs : List ℕ} → xs ≡ take 1 (drop i b) → get_or xs 0 0 ≡ get_or b i 0
number_at1 b i f = grind (arith, common_steps)

pub number_at2 : (b : List ℕ) (i : ℕ) {xs : List ℕ} {n : ℕ} → i + 2 ≤ length b → n ≡ from_be_bytes w16 xs → xs ≡ take 2 (drop i b) → n ≡ at2 b i
number_at2 b i h e f = e ∙ ap (from_be_bytes w16) (f ∙ two_bytes b i h)

pub number_at4 : (b : List ℕ) (i : ℕ) {xs : List ℕ} {n : ℕ} → i + 4 ≤ length b → n ≡ from_be_bytes w32 xs → xs ≡ take 4 (drop i b) → n ≡ at4 b i
number_at4 b i h e f = e ∙ ap (from_be_bytes w32) (f ∙ four_bytes b i h)

pub length-list_at : (b : List ℕ) (i n : ℕ) → length (list_at b i n) ≡ n
length-list_at b i zero = refl
length-list_at b i (suc n) = ap suc (length-list_at b (i + 2) n)

-- one more at the end
list_at_more : (b : List ℕ) (i n j : ℕ) → j ≡ i + 2 * n → list_at b i (n + 1) ≡ list_at b i n ++ (at2 b j ∷ [])
list_at_more b i zero j e = grind arith
list_at_more b i (suc n) j e = let h = list_at_more b (i + 2) n j (omega arith) in grind arith

-- a list whose front is read already, and one more of it
pub level_read : (b : List ℕ) (i k j : ℕ) (xs : List ℕ) {ls : List ℕ} {v : ℕ} → k < length xs → j ≡ i + 2 * k → v ≡ at2 b j → ls ≡ list_at b i k ++ drop k xs → set ls k v ≡ list_at b i (k + 1) ++ drop (k + 1) xs
level_read b i k j xs {v = v} h e f g =
    let rest = drop_more xs k 0 h in
    let split = set_at (list_at b i k) (get_or xs k 0) (drop (k + 1) xs) v k (length-list_at b i k) in
    let group = append_assoc (list_at b i k) (v ∷ []) (drop (k + 1) xs) in
    let more = list_at_more b i k j e in
    cc

-- the levels that were read, in front of zeros
pub levels_padded : (b : List ℕ) (n : ℕ) {ls : List ℕ} → ls ≡ list_at b 17 n → ls ++ drop n (replicate 32 0) ≡ padded (list_at b 17 n)
levels_padded b n {ls = ls} e = ap (λ l. l ++ drop n (replicate 32 0)) e ∙ ap (λ l. list_at b 17 n ++ l) (drop-replicate n 32 0 ∙ ap (λ k. replicate (32 - k) 0) (sym (length-list_at b 17 n)))
