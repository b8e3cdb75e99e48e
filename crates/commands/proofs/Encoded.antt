-- What is written is read back, and no command's bytes begin another's.
use Rattle.std.proofs.Common.{◌≡◌, ℕ, ◌+◌, ◌/◌, ◌%◌, ◌*◌, ◌^◌, ◌<◌, ◌≤◌, false, ◌||◌, eqb, ltb, List, [], ◌∷◌, ◌++◌, length, get_or, take, Ok, Result, sym, refl, ap, ◌∙◌, append_assoc, arith}
use Rattle.std.specs.List.{flat_map, AllByRecursion}
use Rattle.std.proofs.lemmas.Grind.{common_steps}
use Rattle.std.proofs.lemmas.List.{length-append, append_cancel_left, length-take-le}
use Rattle.std.proofs.lemmas.Nat.{from_be_bytes-to_be_bytes_2, from_be_bytes-to_be_bytes_4}
use Rattle.std.proofs.ByRecursion.{All-take}
use Rattle.commands.specs.declared.types.Scene.{Scene}
use Rattle.commands.specs.declared.types.Action.{Action}
use Rattle.commands.specs.declared.types.Action.TheVariants.{Set, Move, Scene as OfScene}
use Rattle.commands.specs.declared.types.Command.{Command}
use Rattle.commands.specs.declared.reader.ReadError.{ReadError}
use Rattle.commands.specs.Values.{Valid, ValidAction, ValidScene, padded}
use Rattle.commands.specs.Bytes.{bytes2, at2, list_at, raised, encode, decode, head_bytes, action_bytes, size_as, action_as, command_at, read_as}
use Rattle.commands.specs.Laws.{ReadsBack, PrefixFree}
use Rattle.commands.proofs.Digits.{lowered-raised, raised_fits}
use Rattle.commands.proofs.Decode.{decode_whole}
use Rattle.commands.proofs.Writes.{length-encode, length-levels}

-- the kind of an action
abbrev pub kind_of : Action → ℕ
kind_of (Set c l) = 1
kind_of (Move c s) = 2
kind_of (OfScene s) = 3

-- the action's bytes, and what stands behind them, behind the head's
abbrev pub whole : Command → List ℕ → List ℕ
whole c rest = head_bytes c ++ (action_bytes c.action ++ rest)

pub encode_whole : (c : Command) (rest : List ℕ) → encode c ++ rest ≡ whole c rest
unfolding encode
encode_whole c rest = append_assoc (head_bytes c) (action_bytes c.action) rest

pub kind_there : (h : Command) (a : Action) (rest : List ℕ) → get_or (head_bytes h ++ (action_bytes a ++ rest)) 13 0 ≡ kind_of a
kind_there h (Set c l) rest = refl
kind_there h (Move c s) rest = refl
kind_there h (OfScene s) rest = refl

-- two bytes read from where they stand
pair_back : (front rest : List ℕ) (x y i : ℕ) → i ≡ length front → at2 (front ++ (x ∷ y ∷ rest)) i ≡ x * 256 + y
pair_back front rest x y i e = grind (arith, common_steps)

-- a list of levels read from where its bytes stand
levels_back : (vs front rest : List ℕ) (i : ℕ) → AllByRecursion (λ l. l < 2 ^ 16) vs → i ≡ length front → list_at (front ++ (flat_map bytes2 vs ++ rest)) i (length vs) ≡ vs
levels_back [] front rest i a e = refl
levels_back (v ∷ vs) front rest i a e =
    let first = pair_back front (flat_map bytes2 vs ++ rest) (v / 256 % 256) (v % 256) i e in
    let n = from_be_bytes-to_be_bytes_2 v a.0 in
    let others = levels_back vs (front ++ bytes2 v) rest (i + 2) a.1 (let l = length-append front (bytes2 v) in omega arith) in
    grind (arith, common_steps)

-- a scene's levels and zeros are its places
places_back : (s : Scene) → ValidScene s → padded (take s.count s.levels) ≡ s.levels
places_back s v = grind (arith, common_steps)

action_back : (h : Command) (a : Action) (rest : List ℕ) → ValidAction a → action_as (kind_of a) (head_bytes h ++ (action_bytes a ++ rest)) ≡ Ok a
action_back h (Set c l) rest v = let i = from_be_bytes-to_be_bytes_2 c.index (omega (arith, v.0)) in let n = from_be_bytes-to_be_bytes_2 l v.1 in grind arith
action_back h (Move c s) rest v = let i = from_be_bytes-to_be_bytes_2 c.index (omega (arith, v.0)) in let n = from_be_bytes-to_be_bytes_4 (raised s) (raised_fits s v.1) in let l = lowered-raised s v.1 in grind arith
action_back h (OfScene s) rest v =
    let places = v.places in
    let few = v.few in
    let vs : List ℕ = take s.count s.levels in
    let n : length vs ≡ s.count = length-take-le s.count s.levels (omega arith) in
    let front : List ℕ = head_bytes h ++ (3 ∷ (bytes2 s.first.index ++ (s.count ∷ []))) in
    let levels = levels_back vs front rest 17 (All-take (λ l. l < 2 ^ 16) s.count s.levels v.words) refl in
    let same = places_back s v in
    let i = from_be_bytes-to_be_bytes_2 s.first.index (let f = v.first in omega arith) in
    grind arith

-- the command is what its bytes say
command_back : (c : Command) (rest : List ℕ) → Valid c → command_at (whole c rest) ≡ Ok c
command_back c rest v =
    let kind = ap (λ k. action_as k (whole c rest)) (kind_there c c.action rest) ∙ action_back c c.action rest v.action in
    let view = from_be_bytes-to_be_bytes_4 c.view v.view in
    let number = from_be_bytes-to_be_bytes_4 c.number v.number in
    let stamp = from_be_bytes-to_be_bytes_4 c.stamp v.stamp in
    grind arith

pub size_there : (h : Command) (a : Action) (rest : List ℕ) → ValidAction a → size_as (kind_of a) (head_bytes h ++ (action_bytes a ++ rest)) ≡ 13 + length (action_bytes a)
size_there h (Set c l) rest v = refl
size_there h (Move c s) rest v = refl
size_there h (OfScene s) rest v = let m = length-levels (take s.count s.levels) in grind (arith, common_steps)

pub kind_known : (a : Action) → (eqb (kind_of a) 0 || ltb 3 (kind_of a)) ≡ false
kind_known (Set c l) = refl
kind_known (Move c s) = refl
kind_known (OfScene s) = refl

kind_here : (a : Action) → 1 ≤ length (action_bytes a)
kind_here a = grind arith

pub reads_back : ReadsBack
reads_back c rest v =
    let w = encode_whole c rest in
    let n = length-encode c in
    let k = kind_here c.action in
    let long = ap length w ∙ length-append (head_bytes c) (action_bytes c.action ++ rest) in
    let longer = length-append (action_bytes c.action) rest in
    let size = size_there c c.action rest v.action in
    let d = decode_whole (whole c rest) (kind_of c.action) (omega arith) (kind_there c c.action rest) (kind_known c.action) (omega (arith, size)) in
    ap decode w ∙ d ∙ ap (λ m. read_as m (command_at (whole c rest))) (size ∙ sym n) ∙ ap (read_as (length (encode c))) (command_back c rest v)

same_read : (c d : Command) (n m : ℕ) → ◌≡◌ {A = Result (Command × ℕ) ReadError} (Ok (c, n)) (Ok (d, m)) → c ≡ d
same_read c d n m e = grind arith

pub prefix_free : PrefixFree
prefix_free c d r s v w e =
    let same = same_read c d _ _ (sym (reads_back c r v) ∙ ap decode e ∙ reads_back d s w) in
    (same, append_cancel_left (encode d) r s (ap (λ x. encode x ++ r) (sym same) ∙ e))
