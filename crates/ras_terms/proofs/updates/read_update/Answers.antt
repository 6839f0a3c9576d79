use Rattle.std.proofs.Common.{◌≡◌, true, false, sym, ◌∙◌, subst}
use Rattle.std.specs.Prelude.{Option, Some}
use Rattle.std.specs.List.{list_any}
use Rattle.ras_names.specs.declared.spec_fault.SpecKind.TheVariants.{RepeatedTarget}
use Rattle.ras_names.specs.Placed.{Name}
use Rattle.ras_names.specs.Checks.{check}
use Rattle.ras_names.specs.StepChecks.{is_same_target, target_checks, target_sort}
use Rattle.ras_names.proofs.Passing.{Passes}
use Rattle.ras_numbering.specs.FileValues.{target_value}
use Rattle.ras_terms.specs.Assigning.{assigned_checks, update_checks_behind}
use Rattle.ras_scope.specs.Placing.{placed_name, placed_update}
use Rattle.ras_scope.specs.Sorting.{IsSortOf}
use Rattle.ras_scope.proofs.Following.{handed, between_fails, between_stays, between_passes}
use Rattle.ras_terms.proofs.ReadAssigned.{assigned_above}
use Rattle.ras_terms.proofs.updates.read_update.Goals as goal

pub returns-then-is_assigned-clause-checks : goal.returns-then-is_assigned-clause-checks
returns-then-is_assigned-clause-checks c = λ seen before sees same known.
    let u = placed_update c.args.update.now in
    let name = placed_name c.args.update.now.target in
    let pass = subst (λ (d : Option Name). Passes (target_checks seen name d)) c.column.ensures (c.in_ok-target.ensures.checks seen sees) in
    let target = subst (λ (d : Option Name). c.in_ok-target.target ≡ target_value seen name d) c.column.ensures (c.in_ok-target.ensures.value seen sees) in
    let repeated : list_any (is_same_target u) before ≡ true =
    sym (assigned_above seen u before c.args.above.now c.in_ok-target.target same target pass known) ∙ sym c.is_assigned.ensures ∙ c.if-is_assigned.true in
    rw c.fault.ensures (between_fails (target_checks seen u.name u.column) (assigned_checks seen u.at (target_sort seen u.name u.column) u.term)
    (check u.name.at RepeatedTarget (list_any (is_same_target u) before)) pass repeated)

pub returns-in_err-term-clause-checks : goal.returns-in_err-term-clause-checks
returns-in_err-term-clause-checks c = λ seen before sees same known.
    let u = placed_update c.args.update.now in
    let name = placed_name c.args.update.now.target in
    let e = c.in_err-term.field-0.0 in
    let pass = subst (λ (d : Option Name). Passes (target_checks seen name d)) c.column.ensures (c.in_ok-target.ensures.checks seen sees) in
    let target = subst (λ (d : Option Name). c.in_ok-target.target ≡ target_value seen name d) c.column.ensures (c.in_ok-target.ensures.value seen sees) in
    let sort = subst (λ (d : Option Name). IsSortOf seen.file (target_sort seen name d) (Some c.in_ok-target.sort)) c.column.ensures (c.in_ok-target.ensures.sort seen sees) in
    let new : list_any (is_same_target u) before ≡ false =
    sym (assigned_above seen u before c.args.above.now c.in_ok-target.target same target pass known) ∙ sym c.is_assigned.ensures ∙ c.if-is_assigned.false in
    handed (update_checks_behind seen before u) c.from_residual-in_err-term.result e c.from_residual-in_err-term.ensures.1
    (between_stays (target_checks seen u.name u.column) (assigned_checks seen u.at (target_sort seen u.name u.column) u.term)
    (check u.name.at RepeatedTarget (list_any (is_same_target u) before)) e pass new (c.in_err-term.ensures.checks seen (target_sort seen u.name u.column) sees sort))

pub returns-clause-checks : goal.returns-clause-checks
returns-clause-checks c = λ seen before sees same known.
    let u = placed_update c.args.update.now in
    let name = placed_name c.args.update.now.target in
    let pass = subst (λ (d : Option Name). Passes (target_checks seen name d)) c.column.ensures (c.in_ok-target.ensures.checks seen sees) in
    let target = subst (λ (d : Option Name). c.in_ok-target.target ≡ target_value seen name d) c.column.ensures (c.in_ok-target.ensures.value seen sees) in
    let sort = subst (λ (d : Option Name). IsSortOf seen.file (target_sort seen name d) (Some c.in_ok-target.sort)) c.column.ensures (c.in_ok-target.ensures.sort seen sees) in
    let new : list_any (is_same_target u) before ≡ false =
    sym (assigned_above seen u before c.args.above.now c.in_ok-target.target same target pass known) ∙ sym c.is_assigned.ensures ∙ c.if-is_assigned.false in
    between_passes (target_checks seen u.name u.column) (assigned_checks seen u.at (target_sort seen u.name u.column) u.term)
    (check u.name.at RepeatedTarget (list_any (is_same_target u) before)) pass new (c.in_ok-term.ensures.checks seen (target_sort seen u.name u.column) sees sort)
