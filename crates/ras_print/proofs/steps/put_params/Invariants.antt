use Rattle.std.proofs.Common.{◌≡◌, ◌++◌, take}
use Rattle.ras_print.specs.Printed.{numbered, param_text}
use Rattle.ras_print.proofs.steps.put_params.Given as goal

abbrev pub invariant-loop-number : goal.invariant-loop-number
invariant-loop-number l = l.out.items ≡ l.initial.out.items ++ numbered (param_text l.names l.params) 0 (take l.number l.sorts)
