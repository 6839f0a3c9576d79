use Rattle.ras_closure.proofs.Gaps.{AreFirstImages}
use Rattle.ras_closure.proofs.function_tables.table_of.Given as goal

abbrev pub invariant-loop-k : goal.invariant-loop-k
invariant-loop-k l = AreFirstImages l.table l.elements.numbers.items l.elements.counts.items l.spares l.fn.function l.fn.decl l.k l.column
