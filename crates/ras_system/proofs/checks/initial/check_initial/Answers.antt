use Rattle.std.proofs.Common.{◌≡◌, ℕ, Some, sym, subst}
use Rattle.ras_system.specs.declared.system_fault.SystemPlace.TheVariants.{Initial}
use Rattle.ras_system.specs.declared.system_fault.SystemKind.TheVariants.{Range}
use Rattle.ras_system.specs.SystemFaults.{initial_checks, first_of}
use Rattle.ras_system.proofs.FirstFaults.{fault_answer, found_answer}
use Rattle.ras_system.proofs.InitialConstants.{initial_misfit, initial_lengths, initial_fits}
use Rattle.ras_system.proofs.checks.initial.check_initial.Goals as goal

pub returns-in_err-check_constants : goal.returns-in_err-check_constants
returns-in_err-check_constants c =
    fault_answer (initial_checks c.args.shape.now c.args.constants.now) c.from_residual.result c.in_err-check_constants.field-0.0 c.from_residual.ensures.1
    (initial_misfit c.args.shape.now c.args.constants.now c.schema.result.now c.vars-vars.result.now c.schema.ensures c.vars-vars.ensures
    c.in_err-check_constants.field-0.0 c.in_err-check_constants.ensures)

pub returns-then-vars-constants : goal.returns-then-vars-constants
returns-then-vars-constants c =
    found_answer (initial_checks c.args.shape.now c.args.constants.now) c.fault.result (record { place = Initial c.min-both.result; kind = Range }) c.fault.ensures
    (subst (λ (both : ℕ). first_of (initial_checks c.args.shape.now c.args.constants.now) ≡ Some (record { place = Initial both; kind = Range })) (sym c.min-both.ensures)
    (initial_lengths c.args.shape.now c.args.constants.now c.schema.result.now c.vars-vars.result.now c.schema.ensures c.vars-vars.ensures
    c.in_ok-check_constants.ensures c.if-vars-constants.true))

pub returns : goal.returns
returns c =
    initial_fits c.args.shape.now c.args.constants.now c.schema.result.now c.vars-vars.result.now c.schema.ensures c.vars-vars.ensures c.in_ok-check_constants.ensures
    c.if-vars-constants.false
