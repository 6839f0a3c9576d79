use Rattle.std.proofs.Common.{◌≡◌, All, refl}
use Rattle.ras_logic.proofs.AllSteps.{all_step, all_done}
use Rattle.ras_steps.proofs.fitting.relations_are_undef.Goals as goal

pub loop-rows-preserved : goal.loop-rows-preserved
loop-rows-preserved c =
    all_step (All (All (λ x. x ≡ 0))) c.args.relations.now c.loop-rows.rows-index c.rows-item.result c.loop-rows-test.true c.rows-item.is c.loop-rows.invariant (c.if-not-rows_are_undef.ensures.0 refl)

pub returns : goal.returns
returns c = (λ _. all_done (All (All (λ x. x ≡ 0))) c.args.relations.now c.loop-rows.rows-index c.loop-rows-test.false c.loop-rows.invariant, λ _. refl)
