use Rattle.ras_closure.specs.Spares.{AreSpared}
use Rattle.ras_closure.proofs.spares.next_spare.Given as goal

abbrev pub invariant-loop-k : goal.invariant-loop-k
invariant-loop-k l = AreSpared l.table.shape.schema.functions l.lacking l.spares l.k
