use Rattle.ras_elab.proofs.NoParams.{made_cube}
use Rattle.ras_elab.proofs.goals.add_goal.Goals as goal

pub unwrap-cube-requires : goal.unwrap-cube-requires
unwrap-cube-requires c = made_cube c.args.literals c.new.result c.requires c.new.ensures.fault
