use Rattle.ras_refute.specs.Clashing.{AreNamed}
use Rattle.ras_refute.proofs.clash.has_distinct.Given as goal

abbrev pub invariant-loop-i : goal.invariant-loop-i
invariant-loop-i l = AreNamed l.table.entries l.classes l.named.items l.i
