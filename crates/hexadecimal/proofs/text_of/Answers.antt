use Rattle.std.proofs.Common.{◌≡◌, Ok, Err, Result, refl, ◌∙◌, arith}
use Rattle.std.specs.Prelude.{IsOk, MatchResult}
use Rattle.std.proofs.lemmas.Result.{MatchResult-at_ok}
use Rattle.std.proofs.lemmas.Str.{IsUtf8-from_ascii}
use Rattle.hex.proofs.HexLemmas.{IsAscii-encode_with}
use Rattle.hex.specs.Hex.{lower_digits, encode_lower}
use Rattle.hexadecimal.proofs.Digits.{lower_ascii, lower_is_hex}
use Rattle.hexadecimal.proofs.text_of.Goals as goal

-- a result is no error where one would refute what holds
no_error : {T E U : Type 0} (P : T → Type 0) (Q : E → Type 0) (r : Result T E) → U → MatchResult r P (λ e. (U → ⊥) × Q e) → IsOk r
no_error P Q (Ok x) holds cases = refl
no_error P Q (Err e) holds cases = absurd (cases.0 holds)

pub unwrap-requires-2 : goal.unwrap-requires-2
unwrap-requires-2 c =
    let written : c.encode_to_slice.new.output ≡ encode_lower c.args.part.now = rw c.unwrap.ensures at c.encode_to_slice.ensures.written in
    no_error _ _ c.from_utf8.result (rw written (IsUtf8-from_ascii (encode_lower c.args.part.now) (IsAscii-encode_with lower_digits c.args.part.now lower_ascii))) c.from_utf8.ensures.cases

pub returns : goal.returns
returns c =
    let written : c.encode_to_slice.new.output ≡ encode_lower c.args.part.now = rw c.unwrap.ensures at c.encode_to_slice.ensures.written in
    (MatchResult-at_ok _ _ _ c.unwrap-2.ensures c.from_utf8.ensures.cases).0
    ∙ written ∙ lower_is_hex c.args.part.now (λ i. omega (arith, c.type_inv.part i))
