use Rattle.std.proofs.Common.{◌<◌, length, get_or, refl, sym, arith}
use Rattle.std.specs.Prelude.{None}
use Rattle.ras_bundles.specs.declared.system_lines.VariableLine.{VariableLine}
use Rattle.ras_bundles.specs.Checks.{variable_checks}
use Rattle.ras_bundles.proofs.LineLaws.{passed_stop, passed_more}
use Rattle.ras_bundles.proofs.shape_lines.variable_lines.Goals as goal

abbrev some : VariableLine
some = record { sort = 0; initial = None }

pub returns-in_err-judged-clause-judges : goal.returns-in_err-judged-clause-judges
returns-in_err-judged-clause-judges c =
    let vs = c.args.lines.now.variables in
    let x = get_or vs c.loop-n.n some in
    let lt : c.loop-n.n < length vs = omega (arith, c.loop-n-test.true, c.len-count.ensures.count) in
    passed_stop (λ _. variable_checks c.args.lines.now) vs c.args.first c.loop-n.n some x c.in_err-judged.field-0.0 c.from_residual.result lt refl c.loop-n.invariant
    (c.in_err-judged.ensures.judges (variable_checks c.args.lines.now x) (sym (c.variable_fault.ensures some))) c.from_residual.ensures.1

pub loop-n-preserved : goal.loop-n-preserved
loop-n-preserved c =
    let vs = c.args.lines.now.variables in
    let x = get_or vs c.loop-n.n some in
    let lt : c.loop-n.n < length vs = omega (arith, c.loop-n-test.true, c.len-count.ensures.count) in
    passed_more (λ _. variable_checks c.args.lines.now) vs c.args.first c.loop-n.n c.in_ok-judged.field-0 some x lt refl c.loop-n.invariant
    (c.in_ok-judged.ensures.judges (variable_checks c.args.lines.now x) (sym (c.variable_fault.ensures some))) c.in_ok-judged.ensures.next
