use Rattle.std.proofs.Common.{refl}
use Rattle.std.specs.List.{zip}
use Rattle.ras_system.specs.SystemFaults.{constant_checks, for_each}
use Rattle.ras_system.proofs.FirstFaults.{passed_more, passed_fault, passed_all, fault_answer}
use Rattle.ras_system.proofs.InitialConstants.{zip_within, zip_item, zip_ended}
use Rattle.ras_system.proofs.checks.initial.check_constants.Goals as goal

pub returns-in_err-check_constant : goal.returns-in_err-check_constant
returns-in_err-check_constant c =
    fault_answer (for_each (constant_checks c.args.schema.now) (zip c.args.vars.now c.args.constants.now)) c.from_residual.result c.in_err-check_constant.field-0.0 c.from_residual.ensures.1
    (passed_fault (constant_checks c.args.schema.now) (zip c.args.vars.now c.args.constants.now) (zip c.args.vars.now c.args.constants.now) c.loop-k.k _ c.in_err-check_constant.field-0.0 refl
    (zip_within c.args.vars.now c.args.constants.now c.loop-k.k c.min-k-end.result c.min-k-end.ensures c.loop-k-test.true)
    (zip_item c.args.vars.now c.args.constants.now c.loop-k.k c.min-k-end.result _ _ c.min-k-end.ensures c.loop-k-test.true)
    c.loop-k.invariant c.in_err-check_constant.ensures)

pub loop-k-preserved : goal.loop-k-preserved
loop-k-preserved c =
    passed_more (constant_checks c.args.schema.now) (zip c.args.vars.now c.args.constants.now) (zip c.args.vars.now c.args.constants.now) c.loop-k.k _ refl
    (zip_within c.args.vars.now c.args.constants.now c.loop-k.k c.min-k-end.result c.min-k-end.ensures c.loop-k-test.true)
    (zip_item c.args.vars.now c.args.constants.now c.loop-k.k c.min-k-end.result _ _ c.min-k-end.ensures c.loop-k-test.true)
    c.loop-k.invariant c.in_ok-check_constant.ensures

pub returns : goal.returns
returns c =
    passed_all (constant_checks c.args.schema.now) (zip c.args.vars.now c.args.constants.now) c.loop-k.k
    (zip_ended c.args.vars.now c.args.constants.now c.loop-k.k c.min-k-end.result c.min-k-end.ensures c.loop-k-test.false) c.loop-k.invariant
