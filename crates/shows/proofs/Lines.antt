-- A line that was not read.
use Rattle.std.proofs.Common.{ℕ, inl, inr, ◌≤◌, List, length, Option, Err, sym, refl, subst}
use Rattle.std.proofs.lemmas.Bool.{le-leb}
use Rattle.reading.specs.Answer.{Answer, reads, cannot}
use Rattle.reading.specs.Meaning.{Refuses}
use Rattle.reading.specs.declared.unreadable.ReadError.{ReadError}
use Rattle.reading.specs.declared.unreadable.ReadError.TheVariants.{Unreadable, Memory}
use Rattle.requests.specs.Said.{Said}
use Rattle.requests.specs.Grammar.{said}
use Rattle.text.specs.Line.{words, plain}
use Rattle.shows.specs.declared.show.Show.{Show}
use Rattle.shows.specs.Failures.{read_failure}
use Rattle.shows.specs.Shows.{CameTo, WordsCameTo}

-- what its words say, and the error that they were not read with
words_not_read : (s : Option Show) (a : Answer Said) (e : ReadError) → Refuses a e → WordsCameTo s a s (Err (read_failure e))
unfolding Refuses
words_not_read s a (Unreadable r) h = subst (λ x. WordsCameTo s x s (Err (read_failure (Unreadable r)))) (sym h) (inl (r, refl, refl), refl)
words_not_read s (reads q) (Memory e) h = inr (refl, refl)
words_not_read s (cannot w) (Memory e) h = (inr refl, refl)

pub not_read : (s : Option Show) (line : List ℕ) (e : ReadError) → length line ≤ 12000000 → Refuses (said (words (plain line))) e → CameTo s line s (Err (read_failure e))
not_read s line e h r = rw (le-leb (length line) 12000000 h) (words_not_read s (said (words (plain line))) e r)
