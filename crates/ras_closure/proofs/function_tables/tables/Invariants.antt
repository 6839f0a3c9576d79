use Rattle.std.proofs.Common.{◌≡◌, length}
use Rattle.ras_closure.specs.Models.{AreTables}
use Rattle.ras_closure.specs.Elements.{number}
use Rattle.ras_closure.specs.Spares.{sized}
use Rattle.ras_closure.proofs.function_tables.tables.Given as goal

abbrev pub invariant-loop-k : goal.invariant-loop-k
invariant-loop-k l = record {
  long : length l.tables ≡ l.k;
  tables : AreTables l.table.shape.schema l.table.terms (number l.elements.numbers.items) (sized l.elements.counts.items l.spares) l.tables;
}
