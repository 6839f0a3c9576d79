use Rattle.std.proofs.Common.{◌<◌, length, get_or, true, refl, sym, ◌∙◌, arith}
use Rattle.std.proofs.lemmas.List.{get_or_default}
use Rattle.ras_logic.proofs.AllSteps.{all_step}
use Rattle.ras_bundles.specs.declared.system_lines.FunctionLine.{FunctionLine}
use Rattle.ras_bundles.specs.Checks.{function_checks}
use Rattle.ras_bundles.specs.Judging.{HasSmallSorts}
use Rattle.ras_bundles.proofs.LineLaws.{passed_stop, passed_more}
use Rattle.ras_bundles.proofs.CompleteLaws.{small_sorts}
use Rattle.ras_bundles.proofs.shape_lines.function_lines.Goals as goal

abbrev some : FunctionLine
some = record { source = 0; target = 0; total = true }

pub returns-in_err-judged-clause-judges : goal.returns-in_err-judged-clause-judges
returns-in_err-judged-clause-judges c =
    let fs = c.args.lines.now.functions in
    let x = get_or fs c.loop-n.n some in
    let lt : c.loop-n.n < length fs = omega (arith, c.loop-n-test.true, c.len-count.ensures.count) in
    passed_stop (function_checks c.args.lines.now) fs c.args.first c.loop-n.n some x c.in_err-judged.field-0.0 c.from_residual.result lt refl c.loop-n.invariant.passed
    (c.in_err-judged.ensures.judges (function_checks c.args.lines.now c.loop-n.n x) (sym (c.function_fault.ensures.fault some))) c.from_residual.ensures.1

pub loop-n-preserved : goal.loop-n-preserved
loop-n-preserved c =
    let fs = c.args.lines.now.functions in
    let x = get_or fs c.loop-n.n some in
    let lt : c.loop-n.n < length fs = omega (arith, c.loop-n-test.true, c.len-count.ensures.count) in
    record {
      passed = passed_more (function_checks c.args.lines.now) fs c.args.first c.loop-n.n c.in_ok-judged.field-0 some x lt refl c.loop-n.invariant.passed
          (c.in_ok-judged.ensures.judges (function_checks c.args.lines.now c.loop-n.n x) (sym (c.function_fault.ensures.fault some))) c.in_ok-judged.ensures.next;
      above = all_step HasSmallSorts fs c.loop-n.n x lt (get_or_default fs c.loop-n.n some x lt) c.loop-n.invariant.above
          (small_sorts c.args.lines.now c.loop-n.n x c.requires.sorts (sym (c.function_fault.ensures.fault some) ∙ c.in_ok-judged.ensures.passes));
    }
