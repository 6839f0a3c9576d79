use Rattle.std.proofs.Common.{◌≡◌, ◌++◌, take}
use Rattle.ras_print.specs.Printed.{numbered, variable_text}
use Rattle.ras_print.proofs.declarations.put_variables.Given as goal

abbrev pub invariant-loop-number : goal.invariant-loop-number
invariant-loop-number l = l.out.items ≡ l.initial.out.items ++ numbered (variable_text l.names l.system.initial) 0 (take l.number l.sort-items)
