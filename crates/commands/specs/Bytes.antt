-- A command's bytes, the high byte first: view (4), member (1), number (4), stamp (4), kind (1), and what the kind has:
-- 1: channel (2), level (2); 2: channel (2), step (4) with 2^31 added; 3: channel (2), how many (1), levels (2 each).
use Rattle.std.specs.Prelude.{ℕ, zero, suc, ◌+◌, ◌-◌, ◌*◌, ◌/◌, ◌%◌, Bool, cond, ◌||◌, List, [], ◌∷◌, ◌++◌, length, take, drop, ℤ, pos, negsuc, Ok, Err, Result, ◌==◌, nat_le, nat_lt, slice_index}
use Rattle.std.specs.List.{flat_map}
use Rattle.commands.specs.declared.types.Action.{Action}
use Rattle.commands.specs.declared.types.Action.TheVariants.{Set, Move, Scene as OfScene}
use Rattle.commands.specs.declared.types.Command.{Command}
use Rattle.commands.specs.declared.types.Refusal.{Refusal}
use Rattle.commands.specs.declared.types.Refusal.TheVariants.{Kind}
use Rattle.commands.specs.declared.reader.ReadError.{ReadError}
use Rattle.commands.specs.declared.reader.ReadError.TheVariants.{CutShort, Invalid}
use Rattle.commands.specs.Values.{and_then, member_or, channel_or, count_or, command_or, padded}

-- two bytes of a number of 16 bits
abbrev pub bytes2 : ℕ → List ℕ
bytes2 n = (n / 256 % 256) ∷ (n % 256) ∷ []

-- four bytes of a number of 32 bits
abbrev pub bytes4 : ℕ → List ℕ
bytes4 n = (n / 16777216 % 256) ∷ (n / 65536 % 256) ∷ (n / 256 % 256) ∷ (n % 256) ∷ []

-- a signed step with 2^31 added
abbrev pub raised : ℤ → ℕ
raised (pos s) = 2147483648 + s
raised (negsuc s) = 2147483647 - s

-- the bytes of what a command does, its kind first
abbrev pub action_bytes : Action → List ℕ
action_bytes (Set c l) = 1 ∷ (bytes2 c.index ++ bytes2 l)
action_bytes (Move c s) = 2 ∷ (bytes2 c.index ++ bytes4 (raised s))
action_bytes (OfScene s) = 3 ∷ (bytes2 s.first.index ++ (s.count ∷ flat_map bytes2 (take s.count s.levels)))

-- the bytes before the kind
abbrev pub head_bytes : Command → List ℕ
head_bytes c = bytes4 c.view ++ (c.member.id ∷ (bytes4 c.number ++ bytes4 c.stamp))

-- a command's bytes
unfoldable pub encode : Command → List ℕ
encode c = head_bytes c ++ action_bytes c.action

-- ys written over xs from a place on
unfoldable pub over : List ℕ → ℕ → List ℕ → List ℕ
over xs at ys = take at xs ++ (ys ++ drop (at + length ys) xs)

-- there is room for some bytes
abbrev pub fits : List ℕ → List ℕ → Bool
fits bs out = nat_le (length bs) (length out)

-- the number of two bytes at a place
abbrev pub at2 : List ℕ → ℕ → ℕ
at2 b i = slice_index b i * 256 + slice_index b (i + 1)

-- the number of four bytes at a place
abbrev pub at4 : List ℕ → ℕ → ℕ
at4 b i = slice_index b i * 16777216 + slice_index b (i + 1) * 65536 + slice_index b (i + 2) * 256 + slice_index b (i + 3)

-- n numbers of two bytes from a place on
abbrev pub list_at : List ℕ → ℕ → ℕ → List ℕ
list_at b i zero = []
list_at b i (suc n) = at2 b i ∷ list_at b (i + 2) n

-- a signed step from what it was with 2^31 added
abbrev pub lowered : ℕ → ℤ
lowered n = cond (nat_lt n 2147483648) (negsuc (2147483647 - n)) (pos (n - 2147483648))

-- how many bytes a command of this kind takes; a scene says how many levels it has (a byte that isn't there counts as 0)
abbrev pub size_as : ℕ → List ℕ → ℕ
size_as kind b = cond (kind == 1) 18 (cond (kind == 2) 20 (17 + 2 * slice_index b 16))

-- what the bytes from the kind on say, all of them being there
abbrev pub action_as : ℕ → List ℕ → Result Action Refusal
action_as kind b =
    and_then (channel_or (at2 b 14)) (λ c. cond (kind == 1) (Ok (Set c (at2 b 16))) (cond (kind == 2) (Ok (Move c (lowered (at4 b 16))))
    (and_then (count_or (slice_index b 16)) (λ n. Ok (OfScene (record { first = c; count = n; levels = padded (list_at b 17 n) }))))))

-- the command that the bytes say, all of them being there
abbrev pub command_at : List ℕ → Result Command Refusal
command_at b =
    and_then (member_or (slice_index b 4)) (λ m. and_then (action_as (slice_index b 13) b) (λ a. command_or (at4 b 0) m (at4 b 5) (at4 b 9) a))

-- what was read and how many bytes it took, or which value can't be
abbrev pub read_as : ℕ → Result Command Refusal → Result (Command × ℕ) ReadError
read_as n (Ok c) = Ok (c, n)
read_as n (Err e) = Err (Invalid e)

-- the command at the front of some bytes: cut short, or a kind that is none, or else judged by its values
unfoldable pub decode : List ℕ → Result (Command × ℕ) ReadError
decode b =
    cond (nat_lt (length b) 14) (Err CutShort)
    (cond (slice_index b 13 == 0 || nat_lt 3 (slice_index b 13)) (Err (Invalid (Kind (slice_index b 13))))
    (cond (nat_lt (length b) (size_as (slice_index b 13) b)) (Err CutShort)
    (read_as (size_as (slice_index b 13) b) (command_at b))))
