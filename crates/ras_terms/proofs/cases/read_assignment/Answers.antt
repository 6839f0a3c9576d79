use Rattle.std.proofs.Common.{◌∷◌, map, sym, ◌∙◌}
use Rattle.ras_names.specs.declared.spec_fault.SpecKind.TheVariants.{RepeatedTarget}
use Rattle.ras_names.specs.Placed as placed
use Rattle.ras_names.specs.Checks.{check, is_among, declared_of}
use Rattle.ras_terms.specs.Assigning.{assigned_checks}
use Rattle.ras_terms.specs.Cases.{columns_of, assignment_checks_behind}
use Rattle.ras_scope.specs.Placing.{placed_assignment}
use Rattle.ras_scope.proofs.Following.{handed}
use Rattle.ras_terms.proofs.ReadCases.{column_faults, column_above, repeated_faults, term_faults, assignment_passes, assigned_sort, assigned_value}
use Rattle.ras_terms.proofs.cases.read_assignment.Goals as goal

pub returns-in_err-column-clause-checks : goal.returns-in_err-column-clause-checks
returns-in_err-column-clause-checks c = λ seen e before sees is same known.
    let s = c.args.scope.now in
    let a = placed_assignment c.args.assignment.now in
    let x = c.in_err-column.field-0.0 in
    handed (assignment_checks_behind seen e before a) c.from_residual.result x c.from_residual.ensures.1
    (column_faults s seen sees c.args.each.now e is a c.if-ne.ensures
    (check a.row.at RepeatedTarget (is_among (map (λ (b : placed.Assignment). b.column.text) before) a.column.text) ∷ assigned_checks seen a.at (declared_of (columns_of seen e) a.column.text) a.term) x c.in_err-column.ensures.checks)

pub returns-then-is_assigned-clause-checks : goal.returns-then-is_assigned-clause-checks
returns-then-is_assigned-clause-checks c = λ seen e before sees is same known.
    let s = c.args.scope.now in
    let a = placed_assignment c.args.assignment.now in
    let above = column_above s seen sees c.args.each.now e is a c.if-ne.ensures before c.in_ok-column.ensures.checks c.args.above.now c.in_ok-column.column c.in_ok-column.sort c.in_ok-column.ensures.found same known in
    rw c.fault-then-is_assigned.ensures
    (repeated_faults s seen sees c.args.each.now e is a c.if-ne.ensures before c.in_ok-column.ensures.checks (sym above ∙ sym c.is_assigned.ensures ∙ c.if-is_assigned.true))

pub returns-in_err-term-clause-checks : goal.returns-in_err-term-clause-checks
returns-in_err-term-clause-checks c = λ seen e before sees is same known.
    let s = c.args.scope.now in
    let a = placed_assignment c.args.assignment.now in
    let x = c.in_err-term.field-0.0 in
    let above = column_above s seen sees c.args.each.now e is a c.if-ne.ensures before c.in_ok-column.ensures.checks c.args.above.now c.in_ok-column.column c.in_ok-column.sort c.in_ok-column.ensures.found same known in
    let sort = assigned_sort s seen sees c.args.each.now e is a c.in_ok-column.column c.in_ok-column.sort c.in_ok-column.ensures.found in
    handed (assignment_checks_behind seen e before a) c.from_residual-in_err-term.result x c.from_residual-in_err-term.ensures.1
    (term_faults s seen sees c.args.each.now e is a c.if-ne.ensures before c.in_ok-column.ensures.checks x (sym above ∙ sym c.is_assigned.ensures ∙ c.if-is_assigned.false)
    (c.in_err-term.ensures.checks seen (declared_of (columns_of seen e) a.column.text) sees sort))

pub returns-clause-checks : goal.returns-clause-checks
returns-clause-checks c = λ seen e before sees is same known.
    let s = c.args.scope.now in
    let a = placed_assignment c.args.assignment.now in
    let above = column_above s seen sees c.args.each.now e is a c.if-ne.ensures before c.in_ok-column.ensures.checks c.args.above.now c.in_ok-column.column c.in_ok-column.sort c.in_ok-column.ensures.found same known in
    let sort = assigned_sort s seen sees c.args.each.now e is a c.in_ok-column.column c.in_ok-column.sort c.in_ok-column.ensures.found in
    assignment_passes s seen sees c.args.each.now e is a c.if-ne.ensures before c.in_ok-column.ensures.checks (sym above ∙ sym c.is_assigned.ensures ∙ c.if-is_assigned.false)
    (c.in_ok-term.ensures.checks seen (declared_of (columns_of seen e) a.column.text) sees sort)

pub returns-clause-value : goal.returns-clause-value
returns-clause-value c = λ seen e sees is.
    assigned_value c.args.scope.now seen sees c.args.each.now e is (placed_assignment c.args.assignment.now) c.in_ok-column.column c.in_ok-column.sort c.in_ok-term.term c.in_ok-column.ensures.found
    (c.in_ok-term.ensures.value seen sees)
