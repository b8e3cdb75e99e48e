use Rattle.std.proofs.Common.{length, sym, refl, ap, ◌∙◌, subst, arith, w32, SFits, rules}
use Rattle.std.specs.List.{flat_map}
use Rattle.std.proofs.lemmas.Int.{to_z-of_z}
use Rattle.commands.specs.Bytes.{action_bytes, bytes2, bytes4, raised}
use Rattle.commands.specs.Writer.{Puts}
use Rattle.commands.proofs.Writes.{then_puts, length-levels}
use Rattle.commands.proofs.writer.Writer.put_action.Goals as goal

pub put_levels-requires : goal.put_levels-requires
put_levels-requires c =
    let e = ap (λ a. length (action_bytes a)) c.in-Scene.is in
    let n = length-levels c.levels.result.now in
    let v = ap (λ vs. length (flat_map bytes2 vs)) c.levels.ensures.value in
    let p = then_puts _ (omega arith) (then_puts _ (omega arith) c.put-in-Scene.ensures c.put-in-Scene-2.ensures c.to_be_bytes-in-Scene.ensures) c.put-in-Scene-3.ensures refl in
    let i = p.place in
    let r = p.room in
    omega arith

pub returns-in-Set : goal.returns-in-Set
returns-in-Set c =
    subst (λ a. Puts c.args.self.now c.put-in-Set-2.new.self (action_bytes a)) (sym c.in-Set.is)
    (then_puts _ (omega arith) (then_puts _ (omega arith) c.put.ensures c.put-in-Set.ensures c.to_be_bytes.ensures) c.put-in-Set-2.ensures c.to_be_bytes-in-Set.ensures)

pub returns-in-Move : goal.returns-in-Move
returns-in-Move c =
    let f : SFits w32 c.in-Move.step = search rules in
    let step = c.raise.ensures ∙ ap raised (to_z-of_z w32 c.in-Move.step f) in
    subst (λ a. Puts c.args.self.now c.put-in-Move-3.new.self (action_bytes a)) (sym c.in-Move.is)
    (then_puts _ (omega arith) (then_puts _ (omega arith) c.put-in-Move.ensures c.put-in-Move-2.ensures c.to_be_bytes-in-Move.ensures) c.put-in-Move-3.ensures (c.to_be_bytes-in-Move-2.ensures ∙ ap bytes4 step))

pub returns-in-Scene : goal.returns-in-Scene
returns-in-Scene c =
    subst (λ a. Puts c.args.self.now c.put_levels.new.self (action_bytes a)) (sym c.in-Scene.is)
    (then_puts _ (omega arith) (then_puts _ (omega arith) (then_puts _ (omega arith) c.put-in-Scene.ensures c.put-in-Scene-2.ensures c.to_be_bytes-in-Scene.ensures) c.put-in-Scene-3.ensures refl) c.put_levels.ensures (ap (flat_map bytes2) c.levels.ensures.value))
