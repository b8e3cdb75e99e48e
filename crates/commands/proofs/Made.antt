-- What the makers make is valid.
use Rattle.std.proofs.Common.{◌≡◌, ℕ, zero, suc, ◌-◌, ◌^◌, ◌<◌, ◌≤◌, List, [], ◌∷◌, length, replicate, None, Ok, ℤ, refl, arith, w32, SFits}
use Rattle.std.specs.List.{AllByRecursion}
use Rattle.std.proofs.lemmas.Grind.{common_steps}
use Rattle.std.proofs.ByRecursion.{All-append}
use Rattle.commands.specs.declared.types.MemberId.{MemberId}
use Rattle.commands.specs.declared.types.Channel.{Channel}
use Rattle.commands.specs.declared.types.Action.{Action}
use Rattle.commands.specs.declared.types.Command.{Command}
use Rattle.commands.specs.Values.{Valid, ValidAction, ValidScene, first_high, padded, member_or, channel_or, set_or, move_or, scene_or, command_or}
use Rattle.commands.specs.Laws.{Makers}

zeros_below : (k : ℕ) → AllByRecursion (λ l. l < 2 ^ 16) (replicate k 0)
zeros_below zero = tt
zeros_below (suc k) = (omega arith, zeros_below k)

-- a scene of up to 32 levels of 16 bits, with zeros behind them
pub padded_valid : (c : Channel) (vs : List ℕ) (n : ℕ) → length vs ≡ n → c.index ≤ 511 → 1 ≤ n → n ≤ 32 → AllByRecursion (λ l. l < 2 ^ 16) vs → ValidScene (record { first = c; count = n; levels = padded vs })
padded_valid c vs n long h l m w =
    let words = All-append (λ x. x < 2 ^ 16) vs (replicate (32 - length vs) 0) w (zeros_below (32 - length vs)) in
    grind (arith, common_steps)

none_high : (ls : List ℕ) → first_high ls ≡ None → AllByRecursion (λ l. l < 2 ^ 16) ls
none_high [] h = tt
none_high (l ∷ ls) h = grind (arith, none_high ls)

member_made : (m : ℕ) (x : MemberId) → member_or m ≡ Ok x → x.id ≤ 63
member_made m x h = grind arith

channel_made : (c : ℕ) (x : Channel) → channel_or c ≡ Ok x → x.index ≤ 511
channel_made c x h = grind arith

set_made : (c l : ℕ) (a : Action) → set_or c l ≡ Ok a → ValidAction a
set_made c l a h = grind arith

move_made : (c : ℕ) (s : ℤ) (a : Action) → SFits w32 s → move_or c s ≡ Ok a → ValidAction a
move_made c s a f h = grind arith

scene_made : (c : ℕ) (ls : List ℕ) (a : Action) → scene_or c ls ≡ Ok a → ValidAction a
scene_made c ls a h = let p = padded_valid (record { index = c }) ls (length ls) refl in let q = none_high ls in grind arith

command_made : (v : ℕ) (m : MemberId) (n s : ℕ) (a : Action) (c : Command) → v < 2 ^ 32 → m.id ≤ 63 → n < 2 ^ 32 → s < 2 ^ 32 → ValidAction a → command_or v m n s a ≡ Ok c → Valid c
command_made v m n s a c vb mb nb sb av h = grind arith

pub makers : Makers
makers = record { member = member_made; channel = channel_made; set = set_made; move = move_made; scene = scene_made; command = command_made }
