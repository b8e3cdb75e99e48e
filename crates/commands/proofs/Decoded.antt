-- Only valid commands are read, and the bytes that were read are just those of the command.
use Rattle.std.proofs.Common.{◌≡◌, ℕ, zero, suc, ◌+◌, ◌-◌, ◌*◌, ◌≤◌, false, ◌||◌, eqb, ltb, List, ◌∷◌, length, get_or, take, replicate, Ok, refl, ap, ◌∙◌, arith}
use Rattle.std.specs.List.{flat_map}
use Rattle.std.proofs.lemmas.List.{take_at}
use Rattle.commands.specs.declared.types.Channel.{Channel}
use Rattle.commands.specs.declared.types.Action.{Action}
use Rattle.commands.specs.declared.types.Action.TheVariants.{Set, Move, Scene as OfScene}
use Rattle.commands.specs.declared.types.Command.{Command}
use Rattle.commands.specs.Values.{Valid, ValidAction, padded}
use Rattle.commands.specs.Bytes.{bytes2, bytes4, at2, at4, list_at, lowered, encode, head_bytes, action_bytes, size_as, action_as, command_at}
use Rattle.commands.specs.Laws.{Bytes, OnlyValid}
use Rattle.commands.proofs.Digits.{raised-lowered, lowered_fits}
use Rattle.commands.proofs.Decode.{size_over, read_known, read_size, read_there, read_command}
use Rattle.commands.proofs.Made.{padded_valid}
use Rattle.commands.proofs.Numbers.{length-list_at}
use Rattle.commands.proofs.Pieces.{piece, piece_join, two_below, four_below, words_below, piece1, piece2, piece4, pieces}

module _ (b : List ℕ) (bytes : Bytes b) where
  -- an action that was read: it can be, and its bytes are those from the kind on
  abbrev Reads : Action → ℕ → Type 0
  Reads a n = ValidAction a × (action_bytes a ≡ piece b 13 (n - 13))

  -- kind and channel
  head_read : 16 ≤ length b → get_or b 13 0 ∷ bytes2 (at2 b 14) ≡ piece b 13 3
  head_read h =
      let kind = piece1 b bytes 13 (omega arith) in
      let channel = piece2 b bytes 14 (omega arith) in
      let j = piece_join b 13 1 2 14 3 refl refl in
      cc

  module _ (c : Channel) (is : c.index ≡ at2 b 14) (some : c.index ≤ 511) where
    set_read : 18 ≤ length b → get_or b 13 0 ≡ 1 → Reads (Set c (at2 b 16)) 18
    set_read h k =
        let head = head_read (omega arith) in
        let level = piece2 b bytes 16 h in
        let j = piece_join b 13 3 2 16 5 refl refl in
        ((some, two_below b bytes 16), cc)

    move_read : 20 ≤ length b → get_or b 13 0 ≡ 2 → Reads (Move c (lowered (at4 b 16))) 20
    move_read h k =
        let head = head_read (omega arith) in
        let step = ap bytes4 (raised-lowered (at4 b 16) (four_below b bytes 16)) ∙ piece4 b bytes 16 h in
        let j = piece_join b 13 3 4 16 7 refl refl in
        ((some, lowered_fits (at4 b 16) (four_below b bytes 16)), cc)

    scene_read : (n : ℕ) → n ≡ get_or b 16 0 → 1 ≤ n → n ≤ 32 → 17 + 2 * n ≤ length b → get_or b 13 0 ≡ 3 → Reads (OfScene (record { first = c; count = n; levels = padded (list_at b 17 n) })) (17 + 2 * n)
    scene_read n e l u h k =
        let long = length-list_at b 17 n in
        let head = head_read (omega arith) in
        let count = piece1 b bytes 16 (omega arith) in
        let levels : take n (padded (list_at b 17 n)) ≡ list_at b 17 n = take_at (list_at b 17 n) (replicate (32 - length (list_at b 17 n)) 0) n long in
        let body = ap (flat_map bytes2) levels ∙ pieces b bytes n 17 (2 * n) (omega arith) refl in
        let i = piece_join b 16 1 (2 * n) 17 (1 + 2 * n) refl refl in
        let j = piece_join b 13 3 (1 + 2 * n) 16 (17 + 2 * n - 13) refl (omega arith) in
        (padded_valid c (list_at b 17 n) n long some l u (words_below b bytes 17 n), cc)

  action_read : (a : Action) (k : ℕ) → get_or b 13 0 ≡ k → (eqb k 0 || ltb 3 k) ≡ false → size_as k b ≤ length b → action_as k b ≡ Ok a → Reads a (size_as k b)
  action_read a zero i known h e = grind arith
  action_read a (suc zero) i known h e = let r = set_read (record { index = at2 b 14 }) refl in grind arith
  action_read a (suc (suc zero)) i known h e = let r = move_read (record { index = at2 b 14 }) refl in grind arith
  action_read a (suc (suc (suc zero))) i known h e = let r = scene_read (record { index = at2 b 14 }) refl in grind arith
  action_read a (suc (suc (suc (suc k)))) i known h e = grind arith

  -- the values are those of the bytes
  command_read : (c : Command) → command_at b ≡ Ok c →
      (c.view ≡ at4 b 0) × (c.member.id ≡ get_or b 4 0) × (c.member.id ≤ 63) × (c.number ≡ at4 b 5) × (1 ≤ c.number) × (c.stamp ≡ at4 b 9) × (1 ≤ c.stamp) × (action_as (get_or b 13 0) b ≡ Ok c.action)
  command_read c e = grind arith

  -- the bytes before the kind
  front_read : (c : Command) → 13 ≤ length b → c.view ≡ at4 b 0 → c.member.id ≡ get_or b 4 0 → c.number ≡ at4 b 5 → c.stamp ≡ at4 b 9 → head_bytes c ≡ piece b 0 13
  front_read c h v m n s =
      let view = piece4 b bytes 0 (omega arith) in
      let member = piece1 b bytes 4 (omega arith) in
      let number = piece4 b bytes 5 (omega arith) in
      let stamp = piece4 b bytes 9 (omega arith) in
      let i = piece_join b 5 4 4 9 8 refl refl in
      let j = piece_join b 4 1 8 5 9 refl refl in
      let k = piece_join b 0 4 9 4 13 refl refl in
      cc

  valid_read : (c : Command) (n : ℕ) → 17 ≤ n → n ≤ length b → command_at b ≡ Ok c → Reads c.action n → Valid c × (n ≤ length b) × (encode c ≡ take n b)
  unfolding encode
  valid_read c n s h e a =
      let r = command_read c e in
      let f = front_read c (omega arith) r.0 r.1 r.3 r.5 in
      let j = piece_join b 0 13 (n - 13) 13 n refl (omega arith) in
      let bytes_is = a.1 in
      let v = four_below b bytes 0 in
      let w = four_below b bytes 5 in
      let x = four_below b bytes 9 in
      (record { view = omega (arith, r.0); member = r.2; numbered = r.4; number = omega (arith, r.3); stamped = r.6; stamp = omega (arith, r.5); action = a.0 }, h, cc)

pub only_valid : OnlyValid
only_valid b c n bytes d =
    let k = get_or b 13 0 in
    let e = read_command b c n d in
    let size = read_size b c n d in
    let h = read_there b c n d in
    let over = size_over k b in
    let a = action_read b bytes c.action k refl (read_known b c n d) (omega arith) (command_read b bytes c e).7 in
    valid_read b bytes c n (omega arith) h e (rw size a)
