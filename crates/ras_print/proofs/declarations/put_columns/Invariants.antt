use Rattle.std.proofs.Common.{◌≡◌, ◌++◌, take, codes}
use Rattle.ras_print.specs.Printed.{numbered, behind, relation_column}
use Rattle.ras_print.proofs.declarations.put_columns.Given as goal

abbrev pub invariant-loop-number : goal.invariant-loop-number
invariant-loop-number l = l.out.items ≡ l.initial.out.items ++ numbered (behind (codes ", ") (relation_column l.names l.columns)) 1 (take l.number l.others)
