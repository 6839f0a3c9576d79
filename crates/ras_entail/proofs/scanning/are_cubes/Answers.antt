use Rattle.std.proofs.Common.{subst}
use Rattle.ras_logic.specs.Formulas.{IsCube}
use Rattle.ras_logic.proofs.AllSteps.{all_step, all_done}
use Rattle.ras_entail.proofs.scanning.are_cubes.Goals as goal

pub loop-cube-preserved : goal.loop-cube-preserved
loop-cube-preserved c =
    all_step IsCube c.args.list.now c.loop-cube.cube-index c.cube-item.result c.loop-cube-test.true c.cube-item.is c.loop-cube.invariant
    (subst IsCube c.get.ensures c.known.ensures.cube)

pub returns : goal.returns
returns c = all_done IsCube c.args.list.now c.loop-cube.cube-index c.loop-cube-test.false c.loop-cube.invariant
