use Rattle.ras_cubes.proofs.Needed.{no-fault}
use Rattle.ras_cubes.proofs.reducing.cube_with.Goals as goal

pub unreachable-requires : goal.unreachable-requires
unreachable-requires c = no-fault c.args.literals c.requires c.in-Err.field-0 c.in-Err.ensures.fault
