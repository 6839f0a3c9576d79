use Rattle.std.proofs.Common.{arith}
use Rattle.ras_obligations.proofs.premises.initial_literal.Goals as goal

pub initial_of-requires : goal.initial_of-requires
initial_of-requires c = omega (arith, c.known.ensures.system.initial_for_each)
