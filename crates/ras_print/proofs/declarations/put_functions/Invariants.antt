use Rattle.std.proofs.Common.{◌≡◌, ◌++◌, take}
use Rattle.ras_print.specs.Printed.{numbered, function_text}
use Rattle.ras_print.proofs.declarations.put_functions.Given as goal

abbrev pub invariant-loop-number : goal.invariant-loop-number
invariant-loop-number l = l.out.items ≡ l.initial.out.items ++ numbered (function_text l.names) 0 (take l.number l.functions)
