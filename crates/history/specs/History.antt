-- What a member has done, in order, and what that makes: levels, count and digest.
use Rattle.std.specs.Prelude.{◌≡◌, ℕ, ◌+◌, ◌%◌, ◌^◌, List, ◌∷◌, ◌++◌, fold, map, replicate}
use Rattle.commands.specs.declared.types.Command.{Command}
use Rattle.commands.specs.Levels.{applied}
use Rattle.commands.specs.Bytes.{encode, bytes4}
use Rattle.sha256.specs.Sha256.{sha256}
use Rattle.history.specs.declared.Record.{Record}
use Rattle.history.specs.declared.Event.{Event}
use Rattle.history.specs.declared.Event.TheVariants.{Delivered, Entered}

-- the levels after one event more
abbrev pub levels_after : List ℕ → Event → List ℕ
levels_after ls (Delivered c) = applied c.action ls
levels_after ls (Entered v) = ls

-- an event's bytes: 1 and the command's, or 2 and the view (4)
abbrev pub event_bytes : Event → List ℕ
event_bytes (Delivered c) = 1 ∷ encode c
event_bytes (Entered v) = 2 ∷ bytes4 v

-- the digest after one event more: SHA-256 of the last digest and then the event's bytes
abbrev pub digest_after : List ℕ → Event → List ℕ
digest_after d e = sha256 (d ++ event_bytes e)

-- count and digest after one event more; the count has 64 bits
abbrev pub record_after : Record → Event → Record
record_after r e = record { count = (r.count + 1) % 2 ^ 64; digest = digest_after r.digest e }

-- events one after another, from some levels or some record on
abbrev pub levels_from : List ℕ → List Event → List ℕ
levels_from ls es = fold levels_after ls es

abbrev pub record_from : Record → List Event → Record
record_from r es = fold record_after r es

-- commands delivered one after another
abbrev pub deliveries : List Command → List Event
deliveries cs = map Delivered cs

-- before anything was done: 512 levels of 0, a count of 0, a digest of 32 zeros
unfoldable pub first_levels : List ℕ
first_levels = replicate 512 0

unfoldable pub first_record : Record
first_record = record { count = 0; digest = replicate 32 0 }

-- what a history makes
abbrev pub levels_of : List Event → List ℕ
levels_of es = levels_from first_levels es

abbrev pub record_of : List Event → Record
record_of es = record_from first_record es

-- whatever history some levels and a record stood for, other levels and another record stand for it with more events behind
abbrev pub GoesOn : List ℕ → Record → List ℕ → Record → List Event → Type 0
GoesOn ls r ms s more = (es : List Event) → r ≡ record_of es → ls ≡ levels_of es → (s ≡ record_of (es ++ more)) × (ms ≡ levels_of (es ++ more))
