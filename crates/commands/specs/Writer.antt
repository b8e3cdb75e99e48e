-- What a writer does to the memory that is lent to it.
use Rattle.std.specs.Prelude.{◌≡◌, ℕ, ◌+◌, ◌≤◌, List, length}
use Rattle.commands.specs.declared.writer.Writer.{Writer}
use Rattle.commands.specs.Bytes.{over}

-- there is room for n bytes more
abbrev pub HasRoom : Writer → ℕ → Type 0
HasRoom w n = w.at + n ≤ length w.out.now

-- some bytes are written to the same memory, right behind those that were written before
pub record Puts (old new : Writer) (bytes : List ℕ) : Type 0 where
  pub lent : new.out.ghost_name ≡ old.out.ghost_name
  pub room : length new.out.now ≡ length old.out.now
  pub place : new.at ≡ old.at + length bytes
  pub out : new.out.now ≡ over old.out.now old.at bytes
