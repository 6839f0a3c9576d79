use Rattle.std.proofs.Common.{List, subst}
use Rattle.ras_logic.specs.declared.problem.Problem.{Problem}
use Rattle.ras_logic.specs.declared.tree.Tree.{Tree}
use Rattle.ras_safety.specs.Faults.{IsSafeFault}
use Rattle.ras_check.proofs.judging.judged_safe.Goals as goal

pub returns-in-Err-Fault : goal.returns-in-Err-Fault
returns-in-Err-Fault c =
    let h : IsSafeFault c.args.system.now c.as_slice.result.now c.as_slice-2.result.now c.in-Err-Fault.fault = rw c.in-Err-Fault.field-0-is at c.in-Err-Fault.ensures.fault in
    subst (λ (formulas : List Problem). IsSafeFault c.args.system.now formulas c.args.trees.now c.in-Err-Fault.fault) c.as_slice.ensures.items
    (subst (λ (trees : List Tree). IsSafeFault c.args.system.now c.as_slice.result.now trees c.in-Err-Fault.fault) c.as_slice-2.ensures.items h)
