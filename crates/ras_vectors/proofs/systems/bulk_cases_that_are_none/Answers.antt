use Rattle.std.proofs.Common.{◌≡◌, ◌<◌, refl, arith, ap, [], zero, suc}
use Rattle.ras_logic.specs.declared.ids.RelId.{RelId}
use Rattle.ras_system.specs.declared.transition.Transition.{Transition}
use Rattle.ras_system.specs.Systems.{IsSystem, IsTransition}
use Rattle.ras_vectors.specs.Words.{case, same, set_column}
use Rattle.ras_vectors.specs.Depot.{shape, idle, with_step, tasks, carts, place, front}
use Rattle.ras_vectors.proofs.Refused.{no_sort, two_sorts}
use Rattle.ras_vectors.proofs.systems.bulk_cases_that_are_none.Goals as goal

the_step : (t : Transition) → IsSystem (with_step t) → IsTransition shape t
the_step t h = h.transitions 1 idle (omega arith)

pub returns-clause-relation : goal.returns-clause-relation
returns-clause-relation c = λ h. let e : 2 < 2 = ((the_step _ h).bulk 0 (case tasks [] []) (omega arith)).relation in omega arith

pub returns-clause-condition : goal.returns-clause-condition
returns-clause-condition c = λ h. let f = ((the_step _ h).bulk 0 (case tasks [] []) (omega arith)).condition 0 (same place place) (omega arith) in no_sort f.0 f.1

pub returns-clause-other_relation : goal.returns-clause-other_relation
returns-clause-other_relation c = λ h. let f = ((the_step _ h).bulk 0 (case tasks [] []) (omega arith)).condition 0 (same place place) (omega arith) in no_sort f.0 f.1

pub returns-clause-column : goal.returns-clause-column
returns-clause-column c = λ h. let f = ((the_step _ h).bulk 0 (case tasks [] []) (omega arith)).assigns 0 (set_column 0 front) (omega arith) in no_sort f.0 f.1

pub returns-clause-other_sort : goal.returns-clause-other_sort
returns-clause-other_sort c = λ h. let f = ((the_step _ h).bulk 0 (case tasks [] []) (omega arith)).assigns 1 (set_column 0 front) (omega arith) in two_sorts 0 1 (λ e. cc) f.0 f.1 f.2

pub returns-clause-column_twice : goal.returns-clause-column_twice
returns-clause-column_twice c = λ h. ((the_step _ h).bulk 0 (case tasks [] []) (omega arith)).once 0 2 (set_column 0 front) (omega arith) (omega arith) refl

pub returns-clause-separated : goal.returns-clause-separated
returns-clause-separated c = λ h.
    let e : carts ≡ tasks = (the_step _ h).in_groups 0 1 2 (case tasks [] []) (case carts [] []) (case tasks [] []) (omega arith) (omega arith) refl refl refl refl in
    let n : suc zero ≡ zero = ap (λ (r : RelId). r.n) e in cc
