use Rattle.ras_vectors.proofs.Violations.{first, second, third, desk_run}
use Rattle.ras_vectors.proofs.runs.the_steps_of_a_run.Goals as goal

pub returns-clause-first : goal.returns-clause-first
returns-clause-first c = first

pub returns-clause-second : goal.returns-clause-second
returns-clause-second c = second

pub returns-clause-third : goal.returns-clause-third
returns-clause-third c = third

pub returns-clause-run : goal.returns-clause-run
returns-clause-run c = desk_run
