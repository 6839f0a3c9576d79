use Rattle.ras_core_vectors.proofs.Refusing.{b-not-inside}
use Rattle.ras_core_vectors.proofs.refused.drops_that_are_refused.Goals as goal

pub returns-clause-not_inside : goal.returns-clause-not_inside
returns-clause-not_inside c = λ a. b-not-inside a.states
