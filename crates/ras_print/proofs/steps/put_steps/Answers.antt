use Rattle.std.proofs.Common.{ℕ, ◌++◌, ◌∙◌, ap, arith}
use Rattle.ras_print.specs.Printed.{step_at}
use Rattle.ras_print.proofs.Loops.{numbered_step}
use Rattle.ras_system.specs.declared.transition.Transition.{Transition}
use Rattle.ras_print.proofs.steps.put_steps.Goals as goal

pub loop-number-preserved : goal.loop-number-preserved
loop-number-preserved c =
    let names = c.args.names.now in
    let n : ℕ = c.loop-number.number in
    numbered_step (step_at names) c.args.transitions.now n c.index-transitions-number.result c.args.out.now.items c.loop-number.out.items c.put_step_at.new.out.items
    (omega arith) c.loop-number.invariant
    (c.in_ok-put_step_at.ensures ∙ ap (λ (t : Transition). c.loop-number.out.items ++ step_at names n t) c.index-transitions-number.is)
