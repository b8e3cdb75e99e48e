-- What is shown of a word is text, and can be written part by part. Assumes nothing.
use Rattle.std.proofs.Common.{◌≡◌, ℕ, ◌<◌, List, [], ◌∷◌, ◌++◌, length, map, sym, ap, ◌∙◌, append_assoc, append-nil, arith}
use Rattle.std.specs.Str.{IsUtf8, IsAscii}
use Rattle.std.proofs.lemmas.Grind.{common_steps}
use Rattle.std.proofs.lemmas.List.{map-append, nil_from_length}
use Rattle.std.proofs.lemmas.Str.{IsUtf8-from_ascii}
use Rattle.std.proofs.lemmas.Str.Ascii.{IsAscii-nil, IsAscii-cons}
use Rattle.reading.specs.Shown.{shown, printable}

shown_ascii : (b : ℕ) → shown b < 128
shown_ascii b = grind (arith, common_steps)

printable_ascii : (s : List ℕ) → IsAscii (printable s)
unfolding printable
printable_ascii [] = IsAscii-nil
printable_ascii (b ∷ s) = IsAscii-cons (shown b) _ (shown_ascii b) (printable_ascii s)

pub IsUtf8-printable : (s : List ℕ) → IsUtf8 (printable s)
IsUtf8-printable s = IsUtf8-from_ascii _ (printable_ascii s)

-- behind `done`, what is shown of `part` is written, the first of what was left
pub one_part_more : (done part rest left all : List ℕ) → left ≡ part ++ rest → done ++ printable left ≡ all → (done ++ printable part) ++ printable rest ≡ all
unfolding printable
one_part_more done part rest left all parts so_far =
    append_assoc done _ _ ∙ ap (λ l. done ++ l) (sym (map-append shown part rest) ∙ ap (map shown) (sym parts)) ∙ so_far

-- nothing is left
pub all_parts : (done left all : List ℕ) → length left ≡ 0 → done ++ printable left ≡ all → done ≡ all
unfolding printable
all_parts done left all none so_far = sym (append-nil done) ∙ ap (λ l. done ++ map shown l) (sym (nil_from_length left none)) ∙ so_far
