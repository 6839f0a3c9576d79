use Rattle.std.proofs.Common.{◌≡◌, ◌++◌, take, flat_map}
use Rattle.ras_print.specs.Printed.{update_text}
use Rattle.ras_print.specs.Scopes.{scope_of}
use Rattle.ras_print.proofs.steps.put_updates.Given as goal

abbrev pub invariant-loop-update : goal.invariant-loop-update
invariant-loop-update l = l.out.items ≡ l.initial.out.items ++ flat_map (update_text (scope_of l.scope)) (take l.update-index l.updates)
