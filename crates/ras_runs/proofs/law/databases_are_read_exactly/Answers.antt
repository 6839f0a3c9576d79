use Rattle.ras_runs.proofs.DatabaseLaws.{database_found, database_misfit}
use Rattle.ras_runs.proofs.law.databases_are_read_exactly.Goals as goal

pub returns-clause-found : goal.returns-clause-found
returns-clause-found c = database_found

pub returns-clause-misfit : goal.returns-clause-misfit
returns-clause-misfit c = database_misfit
