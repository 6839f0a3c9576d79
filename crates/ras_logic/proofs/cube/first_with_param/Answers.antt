use Rattle.std.proofs.Common.{refl}
use Rattle.ras_logic.specs.Formulas.{HasNoParam}
use Rattle.ras_logic.proofs.AllSteps.{all_step, all_done}
use Rattle.ras_logic.proofs.cube.first_with_param.Goals as goal

pub loop-place-preserved : goal.loop-place-preserved
loop-place-preserved c =
    all_step HasNoParam c.args.literals.now c.loop-place.place c.index-literals-place.result c.loop-place-test.true c.index-literals-place.is
    c.loop-place.invariant (c.if-not-has_no_param.ensures.0 refl)

pub returns-clause-none : goal.returns-clause-none
returns-clause-none c = all_done HasNoParam c.args.literals.now c.loop-place.place c.loop-place-test.false c.loop-place.invariant
