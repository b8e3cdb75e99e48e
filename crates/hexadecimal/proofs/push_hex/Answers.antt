use Rattle.std.proofs.Common.{◌≡◌, ◌+◌, ◌-◌, ◌*◌, ◌++◌, length, take, replicate, sym, ap, ◌∙◌, arith, rules}
use Rattle.hex.specs.Hex.{lower_digits, encode_lower}
use Rattle.hex.proofs.HexLemmas.{length-encode_with}
use Rattle.hexadecimal.proofs.Digits.{lower_is_hex, put_behind}
use Rattle.hexadecimal.proofs.push_hex.Goals as goal

pub returns : goal.returns
returns c =
    let bytes = c.args.bytes.now in
    let old = c.args.out.now.items in
    let before = c.len-before.result in
    let after = before + 2 * length bytes in
    let written : c.encode_to_slice.new.output ≡ encode_lower bytes = rw c.unwrap-2.ensures at c.encode_to_slice.ensures.written in
    let long : length c.encode_to_slice.new.output ≡ 2 * length bytes = ap length written ∙ length-encode_with lower_digits bytes in
    let first : before ≡ length old = search rules in
    let last : c.resize.new.self.len ≡ after = rw c.unwrap.ensures at c.resize.ensures.len in
    let room : c.reserve.new.self.len ≡ before = c.reserve.ensures.len ∙ sym c.len-before.ensures in
    let filled : c.deref_mut.result.now ≡ take after c.reserve.new.self.items ++ replicate (after - c.reserve.new.self.len) 0 = c.deref_mut.ensures.value ∙ (rw c.unwrap.ensures at c.resize.ensures.items) in
    let grown : c.deref_mut.result.now ≡ take after c.reserve.new.self.items ++ replicate (after - before) 0 = rw room at filled in
    rw last
    (put_behind old c.reserve.new.self.items c.deref_mut.result.now c.encode_to_slice.new.output _ before after c.reserve.ensures.items first grown (omega (arith, long))
    ∙ ap (λ l. old ++ l) (written ∙ lower_is_hex bytes (λ i. omega (arith, c.type_inv.bytes i))))
