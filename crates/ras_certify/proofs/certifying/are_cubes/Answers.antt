use Rattle.ras_logic.specs.Formulas.{IsCube}
use Rattle.ras_logic.proofs.AllSteps.{all_step, all_done}
use Rattle.ras_certify.proofs.certifying.are_cubes.Goals as goal

pub loop-formula-preserved : goal.loop-formula-preserved
loop-formula-preserved c =
    all_step IsCube c.args.formulas.now c.loop-formula.formula-index c.formula-item.result c.loop-formula-test.true c.formula-item.is c.loop-formula.invariant
    (rw (← c.get.ensures) c.known.ensures.cube)

pub returns : goal.returns
returns c = all_done IsCube c.args.formulas.now c.loop-formula.formula-index c.loop-formula-test.false c.loop-formula.invariant
