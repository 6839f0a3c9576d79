use Rattle.std.proofs.Common.{◌≡◌, ◌++◌, drop}
use Rattle.ras_print.specs.Printed.{goal_texts}
use Rattle.ras_print.proofs.goals.put_goals.Given as goal

abbrev pub invariant-loop-item : goal.invariant-loop-item
invariant-loop-item l =
    l.out.items ++ goal_texts l.names (drop l.item-index l.names.goals) l.rest ≡ l.initial.out.items ++ goal_texts l.names l.names.goals l.initial.rest
