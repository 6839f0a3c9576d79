use Rattle.std.proofs.Common.{◌≡◌, ◌++◌, take}
use Rattle.ras_print.specs.Printed.{numbered, constant_text}
use Rattle.ras_print.proofs.declarations.put_constants.Given as goal

abbrev pub invariant-loop-number : goal.invariant-loop-number
invariant-loop-number l = l.out.items ≡ l.initial.out.items ++ numbered (constant_text l.names) 0 (take l.number l.constants)
