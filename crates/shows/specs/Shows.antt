-- What the lines of a show do.
use Rattle.std.specs.Prelude.{◌≡◌, ℕ, Bool, true, false, not, cond, List, [], ◌∷◌, length, is_ok, Some, None, Ok, Err, vec_items, String, string_bytes, MatchBool, ◌⊎◌, Option, Result, ◌==◌, nat_le}
use Rattle.std.specs.Allocator.{alloc_error}
use Rattle.std.specs.List.{find}
use Rattle.std.specs.declared.alloc.Global.{Global}
use Rattle.commands.specs.declared.types.Action.{Action}
use Rattle.commands.specs.declared.types.Refusal.{Refusal}
use Rattle.commands.specs.Values.{set_or, move_or, scene_or}
use Rattle.stage.specs.declared.IssueError.{IssueError}
use Rattle.stage.specs.Stage.{Stands, is_inside, entered as entered_stage, Issued, level_of, Settled as SettledStage}
use Rattle.requests.specs.declared.asked.Action.{Action as Asked}
use Rattle.requests.specs.declared.asked.Action.TheVariants.{Set, Move, Scene}
use Rattle.requests.specs.declared.asked.DeskRequest.{DeskRequest}
use Rattle.requests.specs.declared.asked.DeskRequest.TheVariants.{Call, Book, Done as Done'}
use Rattle.requests.specs.declared.asked.Request.{Request}
use Rattle.requests.specs.declared.asked.Request.TheVariants.{Blank, Desks as Desks', Circle, OfDesk as OfDesk', Settle, Show as Show', Digest as Digest'}
use Rattle.requests.specs.Said.{Said}
use Rattle.requests.specs.Grammar.{said}
use Rattle.requests.specs.Meaning.{meant}
use Rattle.reading.specs.Answer.{Why as Why', Answer as Answer', reads, cannot}
use Rattle.reading.specs.Meaning.{why_of}
use Rattle.reading.specs.declared.unreadable.Reason.{Reason}
use Rattle.text.specs.Line.{words, plain}
use Rattle.sha256.specs.Sha256.{sha256}
use Rattle.shows.specs.declared.answers.Why.{Why}
use Rattle.shows.specs.declared.answers.Why.TheVariants.{DesksAreGiven, NoDesksYet, OneDeskOnly, NoSuchDesk, NoDeskInCircle, TwiceInCircle, OneCircleOnly}
use Rattle.shows.specs.declared.answers.Refused.TheVariants.{TooLong, Unreadable, Value, NotInShow, Cannot}
use Rattle.shows.specs.declared.answers.PlayError.{PlayError}
use Rattle.shows.specs.declared.answers.PlayError.TheVariants.{Refused, Memory}
use Rattle.shows.specs.declared.answers.Answer.{Answer}
use Rattle.shows.specs.declared.answers.Answer.TheVariants.{Nothing, Level, Done, Digest, Settled, Desks}
use Rattle.shows.specs.declared.show.Show.{Show}
use Rattle.shows.specs.Failures.{issue_failure}
use Rattle.shows.specs.Texts.{answer_text, refusal_text, show_text}

-- the action that was asked for, or the first value that can't be
abbrev pub action_or : Asked → Result Action Refusal
action_or (Set c l) = set_or c l
action_or (Move c s) = move_or c s
action_or (Scene c ls) = scene_or c (vec_items ls)

-- the first of some desks that isn't the one in the show
abbrev pub first_other : ℕ → List ℕ → Option ℕ
first_other desk ds = find (λ d. not (d == desk)) ds

-- why a line that was read can't be carried out
abbrev pub cannot_as : Why → PlayError
cannot_as w = Refused (Cannot w)

-- which desk comes into the show that is given these, or why none does
abbrev pub desk_or : Option Show → List ℕ → Result ℕ Why
desk_or (Some s) ds = Err DesksAreGiven
desk_or None [] = Err OneDeskOnly
desk_or None (d ∷ []) = cond (nat_le d 63) (Ok d) (Err NoSuchDesk)
desk_or None (d ∷ e ∷ ds) = Err OneDeskOnly

-- a desk that has just come, in no circle and with nothing done
pub record Fresh (d : ℕ) (s : Show) : Type 0 where
  pub desk : s.desk ≡ d
  pub member : s.stage.member.id ≡ d
  pub outside : is_inside s.stage ≡ false
  pub waiting : vec_items s.stage.waiting ≡ []
  pub stands : Stands s.stage []

-- the desks are given: one desk, 0 to 63, where there was none; or nothing changes
abbrev pub DesksGiven : Option Show → List ℕ → Option Show → Result Answer PlayError → Type 0
DesksGiven s ds t (Ok a) = (a ≡ Nothing) × ((d : ℕ) × (x : Show) × (desk_or s ds ≡ Ok d) × (t ≡ Some x) × Fresh d x)
DesksGiven s ds t (Err (Refused w)) = ((y : Why) × (desk_or s ds ≡ Err y) × (w ≡ Cannot y)) × (t ≡ s)
DesksGiven s ds t (Err (Memory e)) = ⊥

-- how a circle of desks that are all in the show is answered
abbrev pub own_circle : Bool → List ℕ → Result Answer PlayError
own_circle true ds = Err (cannot_as OneCircleOnly)
own_circle false [] = Err (cannot_as NoDeskInCircle)
own_circle false (d ∷ []) = Ok Nothing
own_circle false (d ∷ e ∷ ds) = Err (cannot_as TwiceInCircle)

abbrev pub circle_as : Bool → Option ℕ → List ℕ → Result Answer PlayError
circle_as inside (Some d) ds = Err (Refused (NotInShow d))
circle_as inside None ds = own_circle inside ds

-- how a circle is answered
abbrev pub circle_or : Show → List ℕ → Result Answer PlayError
circle_or s ds = circle_as (is_inside s.stage) (first_other s.desk ds) ds

-- a show whose desk is in circle 0, all else as it was
abbrev pub entered : Show → Show
entered s = record { desk = s.desk; stage = entered_stage s.stage }

-- how a desk is answered that is asked for a level
abbrev pub level_answer : Result ℕ Refusal → Result Answer PlayError
level_answer (Ok l) = Ok (Level l)
level_answer (Err e) = Err (Refused (Value e))

-- what issuing comes to, as an answer
abbrev pub issued_answer : Result Unit IssueError → Result Answer PlayError
issued_answer (Ok u) = Ok Nothing
issued_answer (Err e) = Err (issue_failure e)

-- a call: a value that can't be changes nothing; else it is issued, and only the stage may change
abbrev pub Called : Show → Show → Result Action Refusal → Result Answer PlayError → Type 0
Called s t (Err e) r = (r ≡ Err (Refused (Value e))) × (t ≡ s)
Called s t (Ok a) r = (t.desk ≡ s.desk) × ((i : Result Unit IssueError) × Issued s.stage t.stage a i × (r ≡ issued_answer i))

-- a desk of the show is asked something; of another nothing changes
abbrev pub OfOwn : Show → Show → DeskRequest → Result Answer PlayError → Type 0
OfOwn s t (Call a) r = Called s t (action_or a) r
OfOwn s t (Book c) r = (r ≡ level_answer (level_of s.stage c)) × (t ≡ s)
OfOwn s t Done' r = (r ≡ Ok (Done s.stage.done)) × (t ≡ s)

abbrev pub OfDesk : Show → Show → ℕ → DeskRequest → Result Answer PlayError → Type 0
OfDesk s t d q r = MatchBool (d == s.desk) (OfOwn s t q r) ((r ≡ Err (Refused (NotInShow d))) × (t ≡ s))

-- all that waited is delivered
abbrev pub SettledAs : Show → Show → Answer → Type 0
SettledAs s t a = (n : ℕ) × (a ≡ Settled n) × (t.desk ≡ s.desk) × SettledStage s.stage t.stage n

-- the desks' lines
abbrev pub Shown : Show → Result Answer PlayError → Type 0
Shown s (Ok a) = (lines : String Global) × (a ≡ Desks lines) × (string_bytes lines ≡ show_text s)
Shown s (Err e) = e ≡ Memory alloc_error

-- a line that is about the desks: before there are any it is refused so, and changes nothing
abbrev pub WithDesks : Option Show → Option Show → PlayError → (Show → Show → Type 0) → Result Answer PlayError → Type 0
WithDesks None t e R r = (r ≡ Err e) × (t ≡ None)
WithDesks (Some x) t e R r = (y : Show) × (t ≡ Some y) × R x y

-- what each line does
abbrev pub Carried : Option Show → Option Show → Request → Result Answer PlayError → Type 0
Carried s t Blank r = (r ≡ Ok Nothing) × (t ≡ s)
Carried s t (Desks' ds) r = DesksGiven s (vec_items ds) t r
Carried s t (Digest' b) r = (r ≡ Ok (Digest (sha256 (vec_items b)))) × (t ≡ s)
Carried s t (OfDesk' d q) r = WithDesks s t (Refused (NotInShow d)) (λ x y. OfDesk x y d q r) r
Carried s t (Circle ds) r = WithDesks s t (cannot_as NoDesksYet) (λ x y. (r ≡ circle_or x (vec_items ds)) × (y ≡ cond (is_ok (circle_or x (vec_items ds))) (entered x) x)) r
Carried s t Settle r = WithDesks s t (cannot_as NoDesksYet) (λ x y. (a : Answer) × (r ≡ Ok a) × SettledAs x y a) r
Carried s t Show' r = WithDesks s t (cannot_as NoDesksYet) (λ x y. Shown x r × (y ≡ x)) r

-- a line that was not read: it is refused with why, or memory was wanting
abbrev pub NotRead : Why' → Result Answer PlayError → Type 0
NotRead w r = ((e : Reason) × (why_of e ≡ w) × (r ≡ Err (Refused (Unreadable e)))) ⊎ (r ≡ Err (Memory alloc_error))

-- a line comes to what its words say, or is refused with why they can't be read, and changes nothing
abbrev pub WordsCameTo : Option Show → Answer' Said → Option Show → Result Answer PlayError → Type 0
WordsCameTo s (reads q) t r = ((p : Request) × (meant p ≡ q) × Carried s t p r) ⊎ ((r ≡ Err (Memory alloc_error)) × (t ≡ s))
WordsCameTo s (cannot w) t r = NotRead w r × (t ≡ s)

-- what a line comes to; one of more than 12,000,000 bytes is refused, and changes nothing
abbrev pub CameTo : Option Show → List ℕ → Option Show → Result Answer PlayError → Type 0
CameTo s line t r =
    MatchBool (nat_le (length line) 12000000) (WordsCameTo s (said (words (plain line))) t r) ((r ≡ Err (Refused TooLong)) × (t ≡ s))

-- what is printed for line n that came to r; where memory was wanting, nothing is printed at all
abbrev pub Replied : ℕ → Result Answer PlayError → List ℕ → Type 0
Replied n (Ok a) text = text ≡ answer_text a
Replied n (Err (Refused w)) text = text ≡ refusal_text n w
Replied n (Err (Memory e)) text = ⊥

-- line n of a show is played: it comes to something, and what is printed says so
abbrev pub Played : ℕ → List ℕ → Option Show → Option Show → List ℕ → Type 0
Played n line s t text = (r : Result Answer PlayError) × CameTo s line t r × Replied n r text
