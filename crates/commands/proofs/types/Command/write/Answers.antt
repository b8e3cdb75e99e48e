use Rattle.std.proofs.Common.{◌≡◌, true, Some, sym, refl, ap, ◌∙◌, arith, rules, List, ℕ, ◌≤◌, length}
use Rattle.std.proofs.lemmas.Bool.{le-leb, cond-true}
use Rattle.commands.specs.declared.types.Command.{Command}
use Rattle.commands.specs.declared.writer.Writer.{Writer}
use Rattle.commands.specs.Writer.{Puts}
use Rattle.commands.specs.Bytes.{encode, head_bytes, action_bytes, fits}
use Rattle.commands.proofs.Writes.{then_puts, length-encode}
use Rattle.commands.proofs.types.Command.write.Goals as goal

pub put_head-requires : goal.put_head-requires
put_head-requires c = let n = length-encode c.args.self.now in omega arith

pub put_action-requires : goal.put_action-requires
put_action-requires c = let n = length-encode c.args.self.now in let i = c.put_head.ensures.place in let r = c.put_head.ensures.room in omega arith

-- a command's bytes fit, and are written once its head and its action are
all_put : {u v w : Writer} (k : Command) → u.at ≡ 0 → length (encode k) ≤ length u.out.now → Puts u v (head_bytes k) → Puts v w (action_bytes k.action) → (fits (encode k) u.out.now ≡ true) × Puts u w (encode k)
unfolding encode
all_put k z h p q = (le-leb _ _ h, then_puts _ (omega arith) p q refl)

-- what was passed first is what the writer left
by_last : {x y z : List ℕ} → y ≡ z → x ≡ y → x ≡ z
by_last p q = q ∙ p

pub returns-clause-after : goal.returns-clause-after
returns-clause-after c =
    let all = all_put c.args.self.now refl (omega arith) c.put_head.ensures c.put_action.ensures in
    by_last (all.1.out ∙ sym (cond-true _ _ _ all.0)) (search rules)

pub returns-clause-value : goal.returns-clause-value
returns-clause-value c =
    let all = all_put c.args.self.now refl (omega arith) c.put_head.ensures c.put_action.ensures in
    let place = all.1.place in
    let n : c.put_action.new.self.at ≡ length (encode c.args.self.now) = omega arith in
    ap Some n ∙ sym (cond-true _ _ _ all.0)
