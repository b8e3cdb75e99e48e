-- One member alone: what it has issued and not yet delivered, and what its memory stands for.
use Rattle.std.specs.Prelude.{◌≡◌, ℕ, ◌+◌, ◌<◌, ◌≤◌, Bool, true, false, cond, List, [], ◌∷◌, ◌++◌, Some, Ok, Err, vec_items, vec_len, Result, ◌==◌, nat_le, slice_index, is_some}
use Rattle.std.specs.Option.{unwrap_or}
use Rattle.commands.specs.declared.types.Action.{Action}
use Rattle.commands.specs.declared.types.Command.{Command}
use Rattle.commands.specs.declared.types.Refusal.{Refusal}
use Rattle.commands.specs.declared.types.Refusal.TheVariants.{Channel as OffChannel}
use Rattle.history.specs.declared.Event.{Event}
use Rattle.history.specs.History.{deliveries, levels_of, record_of}
use Rattle.stage.specs.declared.Stage.{Stage}
use Rattle.stage.specs.declared.IssueError.{IssueError}
use Rattle.stage.specs.declared.IssueError.TheVariants.{Refused, Memory}
use Rattle.stage.specs.declared.NotIssued.{NotIssued}
use Rattle.stage.specs.declared.NotIssued.TheVariants.{Outside, Limit}

-- a refusal's number in the table of refusals
abbrev pub number_of : NotIssued → ℕ
number_of Outside = 3
number_of Limit = 8

-- it is in view 0
abbrev pub is_inside : Stage → Bool
is_inside s = is_some s.issued

-- how many it has issued in view 0; none where it is in no view
abbrev pub issued_of : Stage → ℕ
issued_of s = unwrap_or s.issued 0

-- a stage once view 0 is given to it, with all else as it was
abbrev pub entered : Stage → Stage
entered s = record { member = s.member; issued = Some (issued_of s); waiting = s.waiting; levels = s.levels; done = s.done }

-- levels, count and digest are those of a history
pub record Stands (s : Stage) (es : List Event) : Type 0 where
  pub levels : s.levels ≡ levels_of es
  pub done : s.done ≡ record_of es

-- nothing that anybody could see has changed
pub record Same (s t : Stage) : Type 0 where
  pub member : t.member ≡ s.member
  pub inside : is_inside t ≡ is_inside s
  pub issued : issued_of t ≡ issued_of s
  pub waiting : vec_items t.waiting ≡ vec_items s.waiting
  pub levels : t.levels ≡ s.levels
  pub done : t.done ≡ s.done

-- the next command that it issues: in view 0, with number and stamp one above what it has issued
abbrev pub next_command : Stage → Action → Command
next_command s a = record { view = 0; member = s.member; number = issued_of s + 1; stamp = issued_of s + 1; action = a }

-- one command more that waits, and all else as it was
pub record Grown (s t : Stage) (a : Action) : Type 0 where
  pub inside : is_inside s ≡ true
  pub few : issued_of s < 1024
  pub member : t.member ≡ s.member
  pub inside' : is_inside t ≡ is_inside s
  pub issued : issued_of t ≡ issued_of s + 1
  pub waiting : vec_items t.waiting ≡ vec_items s.waiting ++ (next_command s a ∷ [])
  pub levels : t.levels ≡ s.levels
  pub done : t.done ≡ s.done

-- what issuing comes to
abbrev pub Issued : Stage → Stage → Action → Result Unit IssueError → Type 0
Issued s t a (Ok u) = Grown s t a
Issued s t a (Err (Refused Outside)) = (is_inside s ≡ false) × Same s t
Issued s t a (Err (Refused Limit)) = (1024 ≤ issued_of s) × Same s t
Issued s t a (Err (Memory e)) = Same s t

-- all that waited is delivered, and nothing waits
pub record Settled (s t : Stage) (n : ℕ) : Type 0 where
  pub rounds : n ≡ cond (vec_len s.waiting == 0) 0 1
  pub member : t.member ≡ s.member
  pub inside : is_inside t ≡ is_inside s
  pub issued : issued_of t ≡ issued_of s
  pub waiting : vec_items t.waiting ≡ []
  pub stands : (es : List Event) → Stands s es → Stands t (es ++ deliveries (vec_items s.waiting))

-- the level of a channel, of which there are 0 to 511
abbrev pub level_of : Stage → ℕ → Result ℕ Refusal
level_of s c = cond (nat_le c 511) (Ok (slice_index s.levels c)) (Err (OffChannel c))
