use Rattle.ras_runs.proofs.RunLaws.{run_found, run_misfit}
use Rattle.ras_runs.proofs.law.runs_are_read_exactly.Goals as goal

pub returns-clause-found : goal.returns-clause-found
returns-clause-found c = run_found

pub returns-clause-misfit : goal.returns-clause-misfit
returns-clause-misfit c = run_misfit
