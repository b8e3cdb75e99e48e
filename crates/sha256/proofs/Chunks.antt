-- Lists cut into chunks of n elements.
-- Assumes nothing.
use Rattle.std.proofs.Common.{◌≡◌, ℕ, zero, suc, ◌+◌, ◌*◌, ◌<◌, ◌≤◌, List, ◌++◌, length, get_or, take, drop, refl, arith, length-drop}
use Rattle.std.proofs.lemmas.List.{take-append-le, drop-append-le, drop-drop}
use Rattle.std.specs.Simd.{first_chunks}

pub first_chunks-add : (n a b : ℕ) (xs : List ℕ)
    → first_chunks n (a + b) xs ≡ first_chunks n a xs ++ first_chunks n b (drop (n * a) xs)
first_chunks-add n zero b xs =
    let e : n * 0 ≡ 0 = omega arith in
    let same : 0 + b ≡ b = omega arith in
    rw (e, same)
first_chunks-add n (suc a) b xs =
    let more : suc a + b ≡ suc (a + b) = omega arith in
    let next : n * suc a ≡ n + n * a = omega arith in
    rw (more, next, first_chunks-add n a b (drop n xs), drop-drop)

pub first_chunks-append : (n a : ℕ) (xs ys : List ℕ) → n * a ≤ length xs → first_chunks n a (xs ++ ys) ≡ first_chunks n a xs
first_chunks-append n zero xs ys h = refl
first_chunks-append n (suc a) xs ys h =
    let one : n ≤ length xs = omega arith in
    let others : n * a ≤ length (drop n xs) = simp length-drop (omega arith) in
    rw (take-append-le n xs ys one, drop-append-le n xs ys one, first_chunks-append n a (drop n xs) ys others)

pub get_or-first_chunks : (n k i : ℕ) (xs : List ℕ) (d : List ℕ) → i < k → get_or (first_chunks n k xs) i d ≡ take n (drop (n * i) xs)
get_or-first_chunks n zero i xs d h = absurd (omega arith)
get_or-first_chunks n (suc k) zero xs d h = let e : n * 0 ≡ 0 = omega arith in rw e
get_or-first_chunks n (suc k) (suc i) xs d h =
    let next : n * suc i ≡ n + n * i = omega arith in
    rw (next, get_or-first_chunks n k i (drop n xs) d (omega arith), drop-drop)
