use Rattle.std.proofs.Common.{List, map, subst}
use Rattle.ras_syntax.specs.declared.tree.Assignment.{Assignment}
use Rattle.ras_names.specs.Checks.{for_each}
use Rattle.ras_names.specs.TermChecks.{conjunction_checks}
use Rattle.ras_names.specs.StepChecks.{assignment_checks}
use Rattle.ras_names.proofs.Passing.{Passes, pass_both}
use Rattle.ras_scope.specs.Answering.{Faults}
use Rattle.ras_terms.specs.Cases.{body_checks}
use Rattle.ras_scope.specs.Placing.{placed_assignment, placed_case}
use Rattle.ras_scope.proofs.Following.{handed, faults_stay, faults_follow}
use Rattle.ras_terms.proofs.cases.read_case.Goals as goal

pub returns-in_err-condition-clause-checks : goal.returns-in_err-condition-clause-checks
returns-in_err-condition-clause-checks c = λ seen e sees is.
    let k = placed_case c.args.case.now in
    let x = c.in_err-condition.field-0.0 in
    handed (body_checks seen e k) c.from_residual.result x c.from_residual.ensures.1
    (faults_stay (conjunction_checks seen 16 k.condition) (for_each (assignment_checks seen e k.assignments) k.assignments) x (c.in_err-condition.ensures.checks seen sees))

pub returns-in_err-assigns-clause-checks : goal.returns-in_err-assigns-clause-checks
returns-in_err-assigns-clause-checks c = λ seen e sees is.
    let k = placed_case c.args.case.now in
    let x = c.in_err-assigns.field-0.0 in
    handed (body_checks seen e k) c.from_residual-in_err-assigns.result x c.from_residual-in_err-assigns.ensures.1
    (faults_follow (conjunction_checks seen 16 k.condition) (for_each (assignment_checks seen e k.assignments) k.assignments) x (c.in_ok-condition.ensures.checks seen sees)
    (subst (λ (xs : List Assignment). Faults (for_each (assignment_checks seen e (map placed_assignment xs)) (map placed_assignment xs)) x) c.as_slice.ensures.value (c.in_err-assigns.ensures.checks seen e sees is)))

pub returns-clause-checks : goal.returns-clause-checks
returns-clause-checks c = λ seen e sees is.
    let k = placed_case c.args.case.now in
    pass_both (conjunction_checks seen 16 k.condition) (for_each (assignment_checks seen e k.assignments) k.assignments) (c.in_ok-condition.ensures.checks seen sees)
    (subst (λ (xs : List Assignment). Passes (for_each (assignment_checks seen e (map placed_assignment xs)) (map placed_assignment xs))) c.as_slice.ensures.value (c.in_ok-assigns.ensures.checks seen e sees is))
