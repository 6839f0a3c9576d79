use Rattle.std.proofs.Common.{◌≡◌, ◌++◌, take}
use Rattle.ras_print.specs.Printed.{numbered, relation_text}
use Rattle.ras_print.proofs.declarations.put_relations.Given as goal

abbrev pub invariant-loop-number : goal.invariant-loop-number
invariant-loop-number l = l.out.items ≡ l.initial.out.items ++ numbered (relation_text l.names) 0 (take l.number l.relations)
