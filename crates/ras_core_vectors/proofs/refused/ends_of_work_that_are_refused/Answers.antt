use Rattle.std.proofs.Common.{ap}
use Rattle.ras_core.specs.CoreStates.{EntryParts}
use Rattle.ras_core_vectors.proofs.Entries.{entry-is}
use Rattle.ras_core_vectors.proofs.Refusing.{not-worked}
use Rattle.ras_core_vectors.proofs.refused.ends_of_work_that_are_refused.Goals as goal

pub returns-clause-not_worked_out : goal.returns-clause-not_worked_out
returns-clause-not_worked_out c = λ a. let known = a.bookkeeping.1.0 in let e = a.bookkeeping.0 in
    not-worked e (ap (λ (y : EntryParts). y.cube) (entry-is _ e known)) (ap (λ (y : EntryParts). y.submissions) (entry-is _ e known)) (a.states e known)
