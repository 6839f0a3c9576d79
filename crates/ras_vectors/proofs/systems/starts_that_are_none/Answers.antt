use Rattle.std.proofs.Common.{refl}
use Rattle.ras_vectors.specs.Words.{sort, constant}
use Rattle.ras_vectors.proofs.Refused.{no_sort, two_sorts}
use Rattle.ras_vectors.proofs.systems.starts_that_are_none.Goals as goal

pub returns-clause-other_sort : goal.returns-clause-other_sort
returns-clause-other_sort c = λ h. two_sorts 1 2 (λ e. cc) (sort 2) (h.initial_sorts 1 (constant 1) (sort 2) refl refl) refl

pub returns-clause-unknown : goal.returns-clause-unknown
returns-clause-unknown c = λ h. no_sort (sort 1) (h.initial_sorts 0 (constant 3) (sort 1) refl refl)
