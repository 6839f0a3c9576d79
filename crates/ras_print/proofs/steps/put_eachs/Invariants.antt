use Rattle.std.proofs.Common.{◌≡◌, ◌++◌, drop}
use Rattle.ras_print.specs.Printed.{each_texts}
use Rattle.ras_print.proofs.steps.put_eachs.Given as goal

abbrev pub invariant-loop-row : goal.invariant-loop-row
invariant-loop-row l =
    l.out.items ++ each_texts l.names l.step l.transition (drop l.row-index l.step.each) l.rest
    ≡ l.initial.out.items ++ each_texts l.names l.step l.transition l.step.each l.initial.rest
