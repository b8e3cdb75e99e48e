-- What a line says, with lists in place of memory. Assumes nothing.
use Rattle.std.specs.Prelude.{ℕ, List, ℤ}

pub data ActionSaid : Type 0 where
  set : ℕ → ℕ → ActionSaid
  move : ℕ → ℤ → ActionSaid
  scene : ℕ → List ℕ → ActionSaid

pub data DeskSaid : Type 0 where
  call : ActionSaid → DeskSaid
  book : ℕ → DeskSaid
  done : DeskSaid

pub data Said : Type 0 where
  blank : Said
  desks : List ℕ → Said
  circle : List ℕ → Said
  of_desk : ℕ → DeskSaid → Said
  settle : Said
  show : Said
  digest : List ℕ → Said
