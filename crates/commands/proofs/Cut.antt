-- A command cut short is never read, and a command's bytes are bytes.
use Rattle.std.proofs.Common.{◌≡◌, ℕ, ◌<◌, ◌≤◌, List, [], ◌∷◌, ◌++◌, length, get_or, take, Err, sym, ap, ◌∙◌, ⊎_elim, arith}
use Rattle.std.specs.List.{flat_map}
use Rattle.std.proofs.lemmas.Grind.{common_steps}
use Rattle.std.proofs.lemmas.List.{append-nil, length-take-le, get_or-take}
use Rattle.std.proofs.lemmas.Bool.{cases_lt}
use Rattle.commands.specs.declared.types.Action.{Action}
use Rattle.commands.specs.declared.types.Action.TheVariants.{Set, Move, Scene as OfScene}
use Rattle.commands.specs.declared.types.Command.{Command}
use Rattle.commands.specs.declared.reader.ReadError.TheVariants.{CutShort}
use Rattle.commands.specs.Values.{Valid, ValidAction}
use Rattle.commands.specs.Bytes.{bytes2, encode, decode, head_bytes, action_bytes, size_as}
use Rattle.commands.specs.Laws.{Bytes, CutIsCut, AreBytes}
use Rattle.commands.proofs.Decode.{decode_short, decode_cut}
use Rattle.commands.proofs.Encoded.{kind_of, kind_there, kind_known, size_there}
use Rattle.commands.proofs.Writes.{length-encode, length-levels}

-- a beginning that has its kind has that of the whole
kind_taken : (c : Command) (k : ℕ) → 14 ≤ k → get_or (take k (encode c)) 13 0 ≡ kind_of c.action
unfolding encode
kind_taken c k h =
    get_or-take k (encode c) 13 0 (omega arith) ∙ ap (λ l. get_or (head_bytes c ++ l) 13 0) (sym (append-nil (action_bytes c.action))) ∙ kind_there c c.action []

-- it takes no fewer bytes than it has, and where its count is there, as many as the whole
size_taken : (b : List ℕ) (a : Action) (k n : ℕ) → size_as (kind_of a) b ≡ n → k < n → k < size_as (kind_of a) (take k b)
size_taken b a k n e h = grind (arith, common_steps)

size_whole : (c : Command) → Valid c → size_as (kind_of c.action) (encode c) ≡ length (encode c)
unfolding encode
size_whole c v = ap (λ l. size_as (kind_of c.action) (head_bytes c ++ l)) (sym (append-nil (action_bytes c.action))) ∙ size_there c c.action [] v.action ∙ sym (length-encode c)

pub cut_is_cut : CutIsCut
cut_is_cut c k v h = ⊎_elim short long (cases_lt k 14)
  where
    all : length (take k (encode c)) ≡ k
    all = length-take-le k (encode c) (omega arith)

    short : k < 14 → decode (take k (encode c)) ≡ Err CutShort
    short l = decode_short (take k (encode c)) (let e = all in omega arith)

    long : 14 ≤ k → decode (take k (encode c)) ≡ Err CutShort
    long l =
        let e = all in
        let s = size_taken (encode c) c.action k (length (encode c)) (size_whole c v) h in
        decode_cut (take k (encode c)) (kind_of c.action) (omega arith) (kind_taken c k l) (kind_known c.action) (omega (arith, s))

bytes_of_levels : (vs : List ℕ) → Bytes (flat_map bytes2 vs)
bytes_of_levels [] = tt
bytes_of_levels (v ∷ vs) = grind (arith, bytes_of_levels vs)

bytes_of_action : (a : Action) → ValidAction a → Bytes (action_bytes a)
bytes_of_action (Set c l) v = grind arith
bytes_of_action (Move c s) v = grind arith
bytes_of_action (OfScene s) v = let b = bytes_of_levels (take s.count s.levels) in grind arith

size_of_action : (a : Action) → ValidAction a → (5 ≤ length (action_bytes a)) × (length (action_bytes a) ≤ 68)
size_of_action (Set c l) v = grind arith
size_of_action (Move c s) v = grind arith
size_of_action (OfScene s) v = let m = length-levels (take s.count s.levels) in grind (arith, common_steps)

pub are_bytes : AreBytes
unfolding encode
are_bytes c v =
    let n = length-encode c in
    let s = size_of_action c.action v.action in
    let m = v.member in
    let a = bytes_of_action c.action v.action in
    (grind arith, omega (arith, s.0), omega (arith, s.1))
