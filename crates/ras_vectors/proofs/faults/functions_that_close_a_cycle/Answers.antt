use Rattle.ras_vectors.proofs.Cycles.{second, not_the_first, not_later}
use Rattle.ras_vectors.proofs.faults.functions_that_close_a_cycle.Goals as goal

pub returns-clause-second : goal.returns-clause-second
returns-clause-second c = second

pub returns-clause-first : goal.returns-clause-first
returns-clause-first c = not_the_first

pub returns-clause-later : goal.returns-clause-later
returns-clause-later c = not_later
