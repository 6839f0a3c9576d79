use Rattle.std.proofs.Common.{◌<◌, refl, arith, []}
use Rattle.ras_system.specs.declared.transition.Transition.{Transition}
use Rattle.ras_system.specs.Systems.{IsSystem, IsTransition}
use Rattle.ras_vectors.specs.Words.{sort, relation, same, set_var}
use Rattle.ras_vectors.specs.Depot.{shape, idle, with_step, place, front}
use Rattle.ras_vectors.proofs.Refused.{no_sort, two_sorts}
use Rattle.ras_vectors.proofs.systems.transitions_that_are_none.Goals as goal

-- the changed step of the depot
the_step : (t : Transition) → IsSystem (with_step t) → IsTransition shape t
the_step t h = h.transitions 1 idle (omega arith)

pub returns-clause-row : goal.returns-clause-row
returns-clause-row c = λ h. let e : 2 < 2 = (the_step _ h).rows 0 (relation 0) (omega arith) in omega arith

pub returns-clause-param : goal.returns-clause-param
returns-clause-param c = λ h. let e : 3 < 3 = (the_step _ h).params 1 (sort 0) (omega arith) in omega arith

pub returns-clause-no_disjunct : goal.returns-clause-no_disjunct
returns-clause-no_disjunct c = λ h. let e : 0 < 0 = (the_step _ h).some_disjunct in omega arith

pub returns-clause-second_disjunct : goal.returns-clause-second_disjunct
returns-clause-second_disjunct c = λ h. let f = (the_step _ h).guard 1 [] (omega arith) 0 (same place place) (omega arith) in two_sorts 1 2 (λ e. cc) f.0 f.1 f.2

pub returns-clause-row_in_the_guard : goal.returns-clause-row_in_the_guard
returns-clause-row_in_the_guard c = λ h. let f = (the_step _ h).guard 0 [] (omega arith) 0 (same place place) (omega arith) in no_sort f.0 f.1

pub returns-clause-other_sort : goal.returns-clause-other_sort
returns-clause-other_sort c = λ h. let f = (the_step _ h).updates 0 (set_var 0 front) (omega arith) in two_sorts 1 2 (λ e. cc) f.0 f.1 f.2

pub returns-clause-target : goal.returns-clause-target
returns-clause-target c = λ h. let f = (the_step _ h).updates 0 (set_var 0 front) (omega arith) in no_sort f.0 f.1

pub returns-clause-variable_twice : goal.returns-clause-variable_twice
returns-clause-variable_twice c = λ h. (the_step _ h).once 0 2 (set_var 0 front) (omega arith) (omega arith) refl

pub returns-clause-cell_twice : goal.returns-clause-cell_twice
returns-clause-cell_twice c = λ h. (the_step _ h).once 0 2 (set_var 0 front) (omega arith) (omega arith) refl
