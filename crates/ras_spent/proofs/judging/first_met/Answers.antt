use Rattle.std.proofs.Common.{sym, subst}
use Rattle.ras_logic.proofs.AllSteps.{all_step, all_done}
use Rattle.ras_system.specs.States.{Meets}
use Rattle.ras_evidence.specs.declared.value.Entry.{Entry}
use Rattle.ras_spent.proofs.judging.first_met.Goals as goal

pub loop-number-preserved : goal.loop-number-preserved
loop-number-preserved c =
    all_step (λ (e : Entry). ¬ Meets c.args.db.now c.args.state.now e.cube) c.args.entries.now c.loop-number.number c.index-entries-number.result c.loop-number-test.true
    c.index-entries-number.is c.loop-number.invariant
    (λ (met : Meets c.args.db.now c.args.state.now c.index-entries-number.result.cube).
    let told = c.in_ok-is_met.ensures.1 (subst (Meets c.args.db.now c.args.state.now) (sym c.get.ensures) met) in
    let not_met = c.if-branch.false in
    cc)

pub returns-clause-none : goal.returns-clause-none
returns-clause-none c =
    all_done (λ (e : Entry). ¬ Meets c.args.db.now c.args.state.now e.cube) c.args.entries.now c.loop-number.number c.loop-number-test.false c.loop-number.invariant
