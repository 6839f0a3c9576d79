use Rattle.ras_closure.specs.Elements.{number}
use Rattle.ras_enlarge.specs.Numbers.{AreTablesOver, size_in}
use Rattle.ras_enlarge.proofs.tables.tables_over.Given as goal

abbrev pub invariant-loop-f : goal.invariant-loop-f
invariant-loop-f l = AreTablesOver l.table l.db (number l.numbers) (size_in l.sizes) l.f l.tables
