use Rattle.ras_core_vectors.proofs.Refusing.{not_a-leads-not, no-second-step, rows-not-tight, literals-not-tight}
use Rattle.ras_core_vectors.proofs.refused.admits_that_are_refused.Goals as goal

pub returns-clause-too_wide : goal.returns-clause-too_wide
returns-clause-too_wide c = λ a. not_a-leads-not _ a.states.comes

pub returns-clause-other_step : goal.returns-clause-other_step
returns-clause-other_step c = λ a. no-second-step _ a.states.comes

pub returns-clause-rows : goal.returns-clause-rows
returns-clause-rows c = λ a. rows-not-tight a.states

pub returns-clause-literals : goal.returns-clause-literals
returns-clause-literals c = λ a. literals-not-tight a.states
