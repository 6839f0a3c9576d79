use Rattle.ras_system.specs.SystemFaults.{parameter_checks, disjunct_checks, update_checks, case_checks, transition_checks, for_each}
use Rattle.ras_system.proofs.FirstFaults.{second_fault, third_fault, fourth_answer, fault_answer}
use Rattle.ras_system.proofs.checks.transitions.check_transition.Goals as goal

pub returns-in_err-check_guard-clause-first : goal.returns-in_err-check_guard-clause-first
returns-in_err-check_guard-clause-first c =
    fault_answer (transition_checks c.args.shape.now c.args.n c.args.transition.now) c.from_residual-in_err-check_guard.result c.in_err-check_guard.field-0.0
    c.from_residual-in_err-check_guard.ensures.1
    (second_fault (parameter_checks c.args.shape.now c.args.n c.args.transition.now)
    (for_each (disjunct_checks c.args.shape.now c.args.n c.args.transition.now) c.args.transition.now.guard)
    (for_each (update_checks c.args.shape.now c.args.n c.args.transition.now) c.args.transition.now.updates)
    (for_each (case_checks c.args.shape.now c.args.n c.args.transition.now) c.args.transition.now.bulk)
    c.in_err-check_guard.field-0.0 c.in_ok-check_parameters.ensures.first c.in_err-check_guard.ensures)

pub returns-in_err-check_updates-clause-first : goal.returns-in_err-check_updates-clause-first
returns-in_err-check_updates-clause-first c =
    fault_answer (transition_checks c.args.shape.now c.args.n c.args.transition.now) c.from_residual-in_err-check_updates.result c.in_err-check_updates.field-0.0
    c.from_residual-in_err-check_updates.ensures.1
    (third_fault (parameter_checks c.args.shape.now c.args.n c.args.transition.now)
    (for_each (disjunct_checks c.args.shape.now c.args.n c.args.transition.now) c.args.transition.now.guard)
    (for_each (update_checks c.args.shape.now c.args.n c.args.transition.now) c.args.transition.now.updates)
    (for_each (case_checks c.args.shape.now c.args.n c.args.transition.now) c.args.transition.now.bulk)
    c.in_err-check_updates.field-0.0 c.in_ok-check_parameters.ensures.first c.in_ok-check_guard.ensures c.in_err-check_updates.ensures)

pub returns-clause-first : goal.returns-clause-first
returns-clause-first c =
    fourth_answer (parameter_checks c.args.shape.now c.args.n c.args.transition.now)
    (for_each (disjunct_checks c.args.shape.now c.args.n c.args.transition.now) c.args.transition.now.guard)
    (for_each (update_checks c.args.shape.now c.args.n c.args.transition.now) c.args.transition.now.updates)
    (for_each (case_checks c.args.shape.now c.args.n c.args.transition.now) c.args.transition.now.bulk)
    c.check_bulk.result c.in_ok-check_parameters.ensures.first c.in_ok-check_guard.ensures c.in_ok-check_updates.ensures c.check_bulk.ensures
