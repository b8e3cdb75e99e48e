-- The text of answers.
use Rattle.std.specs.Prelude.{ℕ, zero, suc, Bool, true, false, cond, List, [], ◌++◌, string_bytes, codes, decimal, ◌==◌, slice_index, unwrap_or}
use Rattle.commands.specs.Values.{row}
use Rattle.hexadecimal.specs.Hex.{hex_of}
use Rattle.reading.specs.Meaning.{why_of}
use Rattle.reading.specs.Shown.{text_of, word_of}
use Rattle.stage.specs.Stage.{is_inside, number_of}
use Rattle.history.specs.declared.Record.{Record}
use Rattle.shows.specs.declared.show.Show.{Show}
use Rattle.shows.specs.declared.answers.Why.{Why}
use Rattle.shows.specs.declared.answers.Why.TheVariants.{DesksAreGiven, NoDesksYet, OneDeskOnly, NoSuchDesk, NoDeskInCircle, TwiceInCircle, OneCircleOnly}
use Rattle.shows.specs.declared.answers.Refused.{Refused}
use Rattle.shows.specs.declared.answers.Refused.TheVariants.{TooLong, Unreadable, Value, Issue, NotInShow, Cannot}
use Rattle.shows.specs.declared.answers.Answer.{Answer}
use Rattle.shows.specs.declared.answers.Answer.TheVariants.{Nothing, Level, Done, Digest, Settled, Desks}

abbrev pub why_text : Why → List ℕ
why_text DesksAreGiven = codes "the desks are given already"
why_text NoDesksYet = codes "no desks yet"
why_text OneDeskOnly = codes "only one desk can play yet"
why_text NoSuchDesk = codes "desks are 0 to 63"
why_text NoDeskInCircle = codes "a circle has at least one desk"
why_text TwiceInCircle = codes "a desk stands twice in the circle"
why_text OneCircleOnly = codes "only circle 0 can be told yet"

-- a number in decimal between two texts
abbrev pub around : List ℕ → ℕ → List ℕ → List ℕ
around before n after = before ++ (decimal n ++ after)

-- what is said of a refusal by its number in the table of refusals
abbrev pub turned_away : ℕ → List ℕ
turned_away k = around (codes "turned away ") k []

-- what is said of a refusal
abbrev pub refused_text : Refused → List ℕ
refused_text TooLong = codes "? line too long"
refused_text (Unreadable r) = codes "? " ++ text_of (why_of r)
refused_text (Value e) = turned_away (row e).0
refused_text (Issue e) = turned_away (number_of e)
refused_text (NotInShow d) = around (codes "desk ") d (codes " is not in this show")
refused_text (Cannot w) = codes "? " ++ why_text w

-- the word that a refusal tells, or no bytes
abbrev pub word_told : Refused → List ℕ
word_told TooLong = []
word_told (Unreadable r) = unwrap_or (word_of (why_of r)) []
word_told (Value e) = []
word_told (Issue e) = []
word_told (NotInShow d) = []
word_told (Cannot w) = []

-- what is printed for line n where it is refused
abbrev pub refusal_text : ℕ → Refused → List ℕ
refusal_text n r = around (codes "line ") n (codes ": " ++ (refused_text r ++ codes "\n"))

-- what is printed of an answer
abbrev pub answer_text : Answer → List ℕ
answer_text Nothing = []
answer_text (Level l) = around [] l (codes "\n")
answer_text (Done r) = around [] r.count (codes " ") ++ (hex_of r.digest ++ codes "\n")
answer_text (Digest d) = hex_of d ++ codes "\n"
answer_text (Settled k) = around (codes "settled in ") k (codes " rounds\n")
answer_text (Desks lines) = string_bytes lines

-- ` C=L` for a level that isn't 0
abbrev pub level_text : ℕ → ℕ → List ℕ
level_text c l = cond (l == 0) [] (around (codes " ") c (codes "=") ++ decimal l)

-- the levels of the first n channels that aren't 0, by channel
unfoldable pub levels_text : ℕ → List ℕ → List ℕ
levels_text zero ls = []
levels_text (suc n) ls = levels_text n ls ++ level_text n (slice_index ls n)

-- where a desk stands
abbrev pub place_text : Bool → List ℕ
place_text true = codes "in 0"
place_text false = codes "in none"

-- count and digest in a desk's line
abbrev pub record_text : Record → List ℕ
record_text r = around (codes ", done ") r.count (codes ", digest ") ++ hex_of r.digest

-- the levels in a desk's line
abbrev pub book_text : List ℕ → List ℕ
book_text ls = codes ", levels" ++ levels_text 512 ls ++ codes "\n"

-- a desk's line
unfoldable pub show_text : Show → List ℕ
show_text s = around (codes "desk ") s.desk (codes ": ") ++ place_text (is_inside s.stage) ++ record_text s.stage.done ++ book_text s.stage.levels
