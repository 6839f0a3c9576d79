use Rattle.ras_core_vectors.proofs.Refusing.{c-leads-not, b-not-reasoned}
use Rattle.ras_core_vectors.proofs.refused.skips_that_are_refused.Goals as goal

pub returns-clause-too_wide : goal.returns-clause-too_wide
returns-clause-too_wide c = λ a. c-leads-not _ a.states.0

pub returns-clause-not_covered : goal.returns-clause-not_covered
returns-clause-not_covered c = λ a. b-not-reasoned a.states.1
