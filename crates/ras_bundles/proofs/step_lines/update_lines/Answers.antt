use Rattle.std.proofs.Common.{[], ◌<◌, length, get_or, refl, sym, arith}
use Rattle.ras_logic.specs.declared.term.Base.TheVariants.{Constant}
use Rattle.ras_bundles.specs.declared.system_lines.UpdateLine.{UpdateLine}
use Rattle.ras_bundles.specs.Checks.{update_checks}
use Rattle.ras_bundles.proofs.LineLaws.{passed_stop, passed_more}
use Rattle.ras_bundles.proofs.step_lines.update_lines.Goals as goal

abbrev some : UpdateLine
some = record { target = 0; term = record { base = Constant (record { n = 0 }); path = [] } }

pub returns-in_err-judged-clause-judges : goal.returns-in_err-judged-clause-judges
returns-in_err-judged-clause-judges c =
    let us = c.args.transition.now.updates in
    let x = get_or us c.loop-n.n some in
    let lt : c.loop-n.n < length us = omega (arith, c.loop-n-test.true, c.len-count.ensures.count) in
    passed_stop (update_checks c.args.shape.now c.args.transition.now) us c.args.first c.loop-n.n some x c.in_err-judged.field-0.0 c.from_residual.result lt refl c.loop-n.invariant
    (c.in_err-judged.ensures.judges (update_checks c.args.shape.now c.args.transition.now c.loop-n.n x) (sym (c.update_fault.ensures some))) c.from_residual.ensures.1

pub loop-n-preserved : goal.loop-n-preserved
loop-n-preserved c =
    let us = c.args.transition.now.updates in
    let x = get_or us c.loop-n.n some in
    let lt : c.loop-n.n < length us = omega (arith, c.loop-n-test.true, c.len-count.ensures.count) in
    passed_more (update_checks c.args.shape.now c.args.transition.now) us c.args.first c.loop-n.n c.in_ok-judged.field-0 some x lt refl c.loop-n.invariant
    (c.in_ok-judged.ensures.judges (update_checks c.args.shape.now c.args.transition.now c.loop-n.n x) (sym (c.update_fault.ensures some))) c.in_ok-judged.ensures.next
