use Rattle.std.proofs.Common.{List, [], map, take, sym, ◌∙◌, subst, arith}
use Rattle.std.specs.Prelude.{All}
use Rattle.std.proofs.lemmas.List.{take-map}
use Rattle.std.proofs.lemmas.List.Elements.{All-push}
use Rattle.ras_names.specs.Placed as placed
use Rattle.ras_names.specs.Checks.{for_each}
use Rattle.ras_names.specs.StepChecks.{assignment_checks}
use Rattle.ras_names.proofs.Passing.{Passes}
use Rattle.ras_numbering.specs.FileValues.{assignment_value}
use Rattle.ras_scope.specs.Answering.{Faults}
use Rattle.ras_terms.specs.Cases.{IsKnownColumn, columns_of, assignment_checks_behind}
use Rattle.ras_scope.specs.Placing.{placed_assignment}
use Rattle.ras_scope.proofs.Following.{handed}
use Rattle.ras_terms.proofs.ReadCases.{column_passed}
use Rattle.ras_scope.proofs.Reading.{places_more, one_more, one_faults}
use Rattle.ras_terms.proofs.cases.read_assignments.Goals as goal

pub returns-in_err-next-clause-checks : goal.returns-in_err-next-clause-checks
returns-in_err-next-clause-checks c = λ seen e sees is.
    let xs = c.args.assignments.now in
    let n = c.loop-assignment.assignment-index in
    let x = c.assignment-item.result in
    let error = c.in_err-next.field-0.0 in
    let all = map placed_assignment xs in
    let above = map placed_assignment (take n xs) in
    let h = c.loop-assignment.invariant seen e sees is in
    let fault = c.in_err-next.ensures.checks seen e above sees is (c.as_slice.ensures.items ∙ h.read.read) h.known in
    handed (for_each (assignment_checks seen e all) all) c.from_residual.result error c.from_residual.ensures.1
    (one_faults 0 (assignment_checks seen e all) placed_assignment (assignment_value seen (columns_of seen e)) [] xs n n x c.loop-assignment.assigns error c.loop-assignment-test.true c.assignment-item.is (omega arith) h.read
    (subst (λ (ws : List placed.Assignment). Faults (assignment_checks_behind seen e ws (placed_assignment x)) error) (sym (take-map placed_assignment n xs)) fault))

pub loop-assignment-preserved : goal.loop-assignment-preserved
loop-assignment-preserved c = λ seen e sees is.
    let xs = c.args.assignments.now in
    let n = c.loop-assignment.assignment-index in
    let x = c.assignment-item.result in
    let all = map placed_assignment xs in
    let above = map placed_assignment (take n xs) in
    let h = c.loop-assignment.invariant seen e sees is in
    let pass = c.in_ok-next.ensures.checks seen e above sees is (c.as_slice.ensures.items ∙ h.read.read) h.known in record {
      read = one_more 0 (assignment_checks seen e all) placed_assignment (assignment_value seen (columns_of seen e)) [] xs n n x c.loop-assignment.assigns c.push.new.self c.in_ok-next.next c.loop-assignment-test.true c.assignment-item.is (omega arith) h.read
          (subst (λ (ws : List placed.Assignment). Passes (assignment_checks_behind seen e ws (placed_assignment x))) (sym (take-map placed_assignment n xs)) pass) c.in_ok-push.ensures.ok (c.in_ok-next.ensures.value seen e sees is);
      known = subst (All (IsKnownColumn seen e)) (sym (places_more placed_assignment xs n x c.loop-assignment-test.true c.assignment-item.is))
          (All-push (IsKnownColumn seen e) above (placed_assignment x) h.known (column_passed seen e above (placed_assignment x) pass));
    }
