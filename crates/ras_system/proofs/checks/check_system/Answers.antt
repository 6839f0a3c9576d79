use Rattle.std.proofs.Common.{◌++◌, ◌∙◌}
use Rattle.ras_system.specs.SystemFaults.{initial_checks, transition_checks, goal_checks, for_each, checks as all_checks}
use Rattle.ras_system.proofs.FirstFaults.{first_of-append_none, first_of-append_some, later_answer, fault_answer}
use Rattle.ras_system.proofs.checks.check_system.Goals as goal

pub returns-in_err-check_initial-clause-first : goal.returns-in_err-check_initial-clause-first
returns-in_err-check_initial-clause-first c =
    fault_answer (all_checks (record { shape = c.args.shape.now; initial = c.args.initial.now; transitions = c.args.transitions.now; goals = c.args.goals.now }))
    c.from_residual.result c.in_err-check_initial.field-0.0 c.from_residual.ensures.1
    (first_of-append_some (initial_checks c.args.shape.now c.args.initial.now ++ for_each (transition_checks c.args.shape.now) c.args.transitions.now)
    (for_each (goal_checks c.args.shape.now) c.args.goals.now) c.in_err-check_initial.field-0.0
    (first_of-append_some (initial_checks c.args.shape.now c.args.initial.now) (for_each (transition_checks c.args.shape.now) c.args.transitions.now)
    c.in_err-check_initial.field-0.0 c.in_err-check_initial.ensures))

pub returns-in_err-check_transitions-clause-first : goal.returns-in_err-check_transitions-clause-first
returns-in_err-check_transitions-clause-first c =
    fault_answer (all_checks (record { shape = c.args.shape.now; initial = c.args.initial.now; transitions = c.args.transitions.now; goals = c.args.goals.now }))
    c.from_residual-in_err-check_transitions.result c.in_err-check_transitions.field-0.0 c.from_residual-in_err-check_transitions.ensures.1
    (first_of-append_some (initial_checks c.args.shape.now c.args.initial.now ++ for_each (transition_checks c.args.shape.now) c.args.transitions.now)
    (for_each (goal_checks c.args.shape.now) c.args.goals.now) c.in_err-check_transitions.field-0.0
    (first_of-append_none (initial_checks c.args.shape.now c.args.initial.now) (for_each (transition_checks c.args.shape.now) c.args.transitions.now)
    c.in_ok-check_initial.ensures ∙ c.in_err-check_transitions.ensures))

pub returns-clause-first : goal.returns-clause-first
returns-clause-first c =
    later_answer (initial_checks c.args.shape.now c.args.initial.now ++ for_each (transition_checks c.args.shape.now) c.args.transitions.now)
    (for_each (goal_checks c.args.shape.now) c.args.goals.now) c.check_goals.result
    (first_of-append_none (initial_checks c.args.shape.now c.args.initial.now) (for_each (transition_checks c.args.shape.now) c.args.transitions.now)
    c.in_ok-check_initial.ensures ∙ c.in_ok-check_transitions.ensures) c.check_goals.ensures.first
