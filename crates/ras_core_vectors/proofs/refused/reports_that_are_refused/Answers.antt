use Rattle.std.proofs.Common.{refl}
use Rattle.ras_core_vectors.proofs.Refusing.{free-is-not-done, taken-is-not-done}
use Rattle.ras_core_vectors.proofs.refused.reports_that_are_refused.Goals as goal

pub returns-clause-free : goal.returns-clause-free
returns-clause-free c = λ i. free-is-not-done (i.0.done 1 _ (refl, refl))

pub returns-clause-taken : goal.returns-clause-taken
returns-clause-taken c = λ i. taken-is-not-done (i.0.done 1 _ (refl, refl))
