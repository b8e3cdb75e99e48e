use Rattle.std.proofs.Common.{◌≡◌, ap, ◌∙◌, sym, take, drop, get_or, arith}
use Rattle.commands.specs.Values.{member_or}
use Rattle.commands.specs.Bytes.{action_as}
use Rattle.commands.specs.Kind.{code_of}
use Rattle.commands.proofs.Decode.{size_over}
use Rattle.commands.proofs.Judged.{then_ok, same_values}
use Rattle.commands.proofs.Numbers.{number_at1, number_at4}
use Rattle.commands.proofs.reader.get_command.Goals as goal

pub returns : goal.returns
returns c =
    let b = c.args.bytes.now in
    let size = size_over (code_of c.args.kind) b in
    let o1 = c.take.ensures.bytes in
    let o2 = c.take-2.ensures.bytes in
    let o3 = c.take-3.ensures.bytes in
    let o4 = c.take-4.ensures.bytes in
    let o5 = c.take-5.ensures.bytes in
    let p1 = c.take.ensures.place in
    let p2 = c.take-2.ensures.place in
    let p3 = c.take-3.ensures.place in
    let p4 = c.take-4.ensures.place in
    let s4 : c.take.new.self.at ≡ 4 = omega arith in
    let s5 : c.take-2.new.self.at ≡ 5 = omega arith in
    let s9 : c.take-3.new.self.at ≡ 9 = omega arith in
    let t2 : c.take-2.result ≡ take 1 (drop 4 b) = cc c.take-2.ensures.value in
    let t3 : c.take-3.result ≡ take 4 (drop 5 b) = cc c.take-3.ensures.value in
    let t4 : c.take-4.result ≡ take 4 (drop 9 b) = cc c.take-4.ensures.value in
    let v = number_at4 b 0 (omega arith) c.from_be_bytes-view.ensures c.take.ensures.value in
    let n = number_at4 b 5 (omega arith) c.from_be_bytes-number.ensures t3 in
    let s = number_at4 b 9 (omega arith) c.from_be_bytes-stamp.ensures t4 in
    let same : c.take-5.new.self.bytes.now ≡ b = cc in
    let member = c.in_ok-member.ensures ∙ ap member_or (c.from.ensures ∙ number_at1 b 4 t2) in
    let action = c.in_ok-action.ensures ∙ ap (action_as (code_of c.args.kind)) same ∙ ap (λ k. action_as k b) (sym c.requires.kind) in
    sym (then_ok (member_or (get_or b 4 0)) _ (sym member) (then_ok (action_as (get_or b 13 0) b) _ (sym action) (sym (c.new.ensures ∙ same_values c.in_ok-member.member c.in_ok-action.action v n s))))
