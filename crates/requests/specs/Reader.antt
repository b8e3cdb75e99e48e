-- The words that a reader has before it. Assumes nothing.
use Rattle.std.specs.Prelude.{ℕ, List}
use Rattle.text.specs.Cursor.{left}
use Rattle.requests.specs.declared.values.Reader.{Reader}

abbrev pub unread : Reader → List (List ℕ)
unread r = left r.words
