use Rattle.std.proofs.Common.{rules}
use Rattle.ras_logic.proofs.AllSteps.{all_step, all_done}
use Rattle.ras_logic.specs.Formulas.{Fits, IsCube}
use Rattle.ras_safety.proofs.safe.first_misfit.Goals as goal

pub loop-number-preserved : goal.loop-number-preserved
loop-number-preserved c = record {
  fit = all_step (Fits c.args.system.now.shape) c.args.formulas.now c.loop-number.number c.index-formulas-number.result c.loop-number-test.true c.index-formulas-number.is
      c.loop-number.invariant.fit (rw (← c.shape.ensures, ← c.get-in-loop-number.ensures) (c.if-not-cube_fits.ensures.0 (search rules)));
  cubes = all_step IsCube c.args.formulas.now c.loop-number.number c.index-formulas-number.result c.loop-number-test.true c.index-formulas-number.is
      c.loop-number.invariant.cubes (rw (← c.get.ensures) c.known.ensures.cube);
}

pub returns-clause-none : goal.returns-clause-none
returns-clause-none c = all_done (Fits c.args.system.now.shape) c.args.formulas.now c.loop-number.number c.loop-number-test.false c.loop-number.invariant.fit

pub returns-clause-cubes : goal.returns-clause-cubes
returns-clause-cubes c = all_done IsCube c.args.formulas.now c.loop-number.number c.loop-number-test.false c.loop-number.invariant.cubes
