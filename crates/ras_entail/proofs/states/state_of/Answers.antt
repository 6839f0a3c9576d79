use Rattle.std.proofs.Common.{◌≡◌, ℕ, length, refl, subst, arith}
use Rattle.ras_system.specs.declared.state.State.{State}
use Rattle.ras_entail.proofs.StateRows.{AreFirstRelations, relations-all}
use Rattle.ras_entail.proofs.states.state_of.Goals as goal

pub returns : goal.returns
returns c =
    let ended : c.loop-n.n ≡ length c.args.shape.now.relations = omega (arith, c.loop-n-test.false, c.loop-n.auto.n-end, c.relation_count-n-end.ensures) in
    let s : State = record { vars = c.args.values.vars; relations = c.loop-n.relations } in
    relations-all c.args.shape.now c.args.rows.now c.args.values s c.requires.rows refl
    (subst (λ (count : ℕ). AreFirstRelations c.args.rows.now c.args.values.rows count c.loop-n.relations) ended c.loop-n.invariant)
