use Rattle.std.proofs.Common.{arith}
use Rattle.ras_system.specs.SystemFaults.{case_checks, for_each}
use Rattle.ras_system.proofs.FirstFaults.{passed_more, passed_fault, fault_answer}
use Rattle.ras_system.proofs.checks.bulk.check_bulk.Goals as goal

pub returns-in_err-check_case : goal.returns-in_err-check_case
returns-in_err-check_case c =
    fault_answer (for_each (case_checks c.args.shape.now c.args.n c.args.transition.now) c.args.transition.now.bulk) c.from_residual.result c.in_err-check_case.field-0.0 c.from_residual.ensures.1
    (passed_fault (case_checks c.args.shape.now c.args.n c.args.transition.now) c.args.transition.now.bulk c.as_slice-bulk.result.now c.loop-k.k c.index-bulk-k.result c.in_err-check_case.field-0.0
    c.as_slice-bulk.ensures.items c.loop-k-test.true c.index-bulk-k.is c.loop-k.invariant.passed c.in_err-check_case.ensures.first)

pub loop-k-preserved : goal.loop-k-preserved
loop-k-preserved c = record {
  passed = passed_more (case_checks c.args.shape.now c.args.n c.args.transition.now) c.args.transition.now.bulk c.as_slice-bulk.result.now c.loop-k.k c.index-bulk-k.result c.as_slice-bulk.ensures.items c.loop-k-test.true c.index-bulk-k.is
      c.loop-k.invariant.passed c.in_ok-check_case.ensures.first;
  few = let few = c.in_ok-check_case.ensures.few in omega (arith, few);
}
