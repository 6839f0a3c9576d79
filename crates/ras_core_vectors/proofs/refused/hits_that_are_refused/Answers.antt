use Rattle.ras_core_vectors.proofs.Refusing.{everything-leads-not, b-not-initial}
use Rattle.ras_core_vectors.proofs.refused.hits_that_are_refused.Goals as goal

pub returns-clause-too_wide : goal.returns-clause-too_wide
returns-clause-too_wide c = λ a. everything-leads-not _ a.states.0

pub returns-clause-not_initial : goal.returns-clause-not_initial
returns-clause-not_initial c = λ a. b-not-initial a.states.1
