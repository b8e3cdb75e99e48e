-- Bytes written one piece after another, from the front of lent memory on.
use Rattle.std.proofs.Common.{◌≡◌, ℕ, ◌+◌, ◌*◌, ◌<◌, ◌≤◌, List, [], ◌∷◌, ◌++◌, length, get_or, take, drop, set, refl, append_assoc, arith}
use borrow.Rule.Slice.PartMut.{put_mid}
use Rattle.std.specs.List.{flat_map}
use Rattle.std.proofs.lemmas.Grind.{common_steps}
use Rattle.std.proofs.lemmas.List.{set_split, drop-drop, take_at, drop_at, length-append, length-take-le, take_more, flat_map_more}
use Rattle.commands.specs.declared.types.Command.{Command}
use Rattle.commands.specs.declared.writer.Writer.{Writer}
use Rattle.commands.specs.Writer.{Puts}
use Rattle.commands.specs.Bytes.{over, bytes2, encode, action_bytes}

-- nothing written, one element, and a part
pub over_none : (xs : List ℕ) (a : ℕ) → over xs a [] ≡ xs
unfolding over
over_none xs a = grind (arith, common_steps)

pub set_over : (xs : List ℕ) (a n : ℕ) → a + 1 ≤ length xs → set xs a n ≡ over xs a (n ∷ [])
unfolding over
set_over xs a n h = grind (arith, set_split)

pub mid_over : (xs ys zs : List ℕ) (a k : ℕ) → ys ≡ zs → k ≡ length zs → put_mid a k xs ys ≡ over xs a zs
unfolding over
mid_over xs ys zs a k e n = grind (arith, drop-drop)

-- what is written takes the place of as many bytes
pub length-over : (xs : List ℕ) (a : ℕ) (ys : List ℕ) → a + length ys ≤ length xs → length (over xs a ys) ≡ length xs
unfolding over
length-over xs a ys h = grind (arith, common_steps)

-- one piece behind another
pub over-over : (xs ys zs : List ℕ) (a n : ℕ) → a ≤ length xs → n ≡ a + length ys → over (over xs a ys) n zs ≡ over xs a (ys ++ zs)
unfolding over
over-over xs ys zs a n h e =
    let post : List ℕ = drop (a + length ys) xs in
    let whole : (take a xs ++ ys) ++ post ≡ over xs a ys = append_assoc (take a xs) ys post in
    let long = length-append (take a xs) ys in
    let most = length-take-le a xs h in
    let front = take_at (take a xs ++ ys) post n in
    let back = drop_at (take a xs ++ ys) post n in
    let size = length-append ys zs in
    let rest = drop-drop (length zs) n (over xs a ys) in
    let last = drop-drop (length zs) (a + length ys) xs in
    let i = append_assoc (take a xs) ys (zs ++ drop (a + length (ys ++ zs)) xs) in
    let j = append_assoc ys zs (drop (a + length (ys ++ zs)) xs) in
    grind arith

-- a writer that has written nothing more
pub puts_none : (w : Writer) → Puts w w []
puts_none w = grind (arith, over_none)

-- one piece written and then another behind it, whose bytes are known by another name
pub then_puts : {u v w : Writer} {xs ys : List ℕ} (zs : List ℕ) → u.at ≤ length u.out.now → Puts u v xs → Puts v w ys → ys ≡ zs → Puts u w (xs ++ zs)
then_puts {u = u} {v = v} {xs = xs} {ys = ys} zs h p q e = let o = over-over u.out.now xs ys u.at v.at h p.place in grind (arith, common_steps)

-- the bytes of a list's first levels written, and then those of the next
pub puts_level : {u v w : Writer} (vs : List ℕ) (k : ℕ) {ys : List ℕ} → u.at ≤ length u.out.now → k < length vs → Puts u v (flat_map bytes2 (take k vs)) → Puts v w ys → ys ≡ bytes2 (get_or vs k 0) → Puts u w (flat_map bytes2 (take (k + 1) vs))
puts_level vs k h l p q e =
    let more = flat_map_more bytes2 [] (take k vs) (get_or vs k 0) in
    let next = take_more vs k 0 l in
    let puts = then_puts (bytes2 (get_or vs k 0)) h p q e in
    grind arith

-- two bytes a level
pub length-levels : (vs : List ℕ) → length (flat_map bytes2 vs) ≡ 2 * length vs
length-levels [] = refl
length-levels (v ∷ vs) = let h = length-levels vs in omega arith

-- thirteen bytes before the kind
pub length-encode : (c : Command) → length (encode c) ≡ 13 + length (action_bytes c.action)
unfolding encode
length-encode c = omega arith

pub ruleset sizes = (length-levels, length-encode)

pub ruleset parts = (mid_over, length-over)
