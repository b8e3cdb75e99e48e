-- The desks of a line.
use Rattle.std.proofs.Common.{◌≡◌, ℕ, ◌≤◌, false, List, [], ◌∷◌, length, get_or, is_some, Some, None, Ok, Option, Result, sym, subst, arith}
use Rattle.std.proofs.lemmas.Bool.{le-leb, cond-true}
use Rattle.requests.specs.declared.asked.Request.{Request}
use Rattle.shows.specs.declared.answers.Answer.{Answer}
use Rattle.shows.specs.declared.answers.PlayError.{PlayError}
use Rattle.shows.specs.declared.show.Show.{Show}
use Rattle.shows.specs.Shows.{desk_or, Carried}

-- one desk that may play, where there was none
pub given : (s : Option Show) (ds : List ℕ) → is_some s ≡ false → length ds ≡ 1 → get_or ds 0 0 ≤ 63 → desk_or s ds ≡ Ok (get_or ds 0 0)
given (Some x) ds e f h = grind arith
given None [] e f h = grind arith
given None (d ∷ []) e f h = cond-true _ _ _ (le-leb d 63 h)
given None (d ∷ d' ∷ ds) e f h = grind arith

-- what is carried out is so for the show and the line that are there
pub carried : (t : Option Show) (r : Result Answer PlayError) {s : Option Show} {x : Show} {p q : Request} → s ≡ Some x → p ≡ q → Carried (Some x) t q r → Carried s t p r
carried t r {s} {x} {p} {q} e f h = subst (λ o. Carried o t p r) (sym e) (subst (λ o. Carried (Some x) t o r) (sym f) h)
