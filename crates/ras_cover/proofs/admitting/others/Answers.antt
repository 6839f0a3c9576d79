use Rattle.ras_cover.proofs.Admitted.{others-start, others-on}
use Rattle.ras_cover.proofs.admitting.others.Goals as goal

pub loop-other-preserved : goal.loop-other-preserved
loop-other-preserved c = others-on c.loop-other.yielded c.args.cube.now c.in-Some.other c.loop-other.kept c.push_other.new.kept c.loop-other.invariant c.in_ok-push_other.ensures
