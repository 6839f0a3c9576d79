use Rattle.ras_leads.proofs.Gathers.{gathers-on}
use Rattle.ras_leads.proofs.gathering.gather.Goals as goal

pub loop-cube-preserved : goal.loop-cube-preserved
loop-cube-preserved c = gathers-on c.args.cubes.now c.loop-cube.yielded c.in-Some.cube c.loop-cube.cubes c.gather_one.new.cubes c.loop-cube.invariant c.in_ok-gather_one.ensures
