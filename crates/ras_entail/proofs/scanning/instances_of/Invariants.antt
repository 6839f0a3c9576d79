use Rattle.ras_entail.specs.Scans.{AreEnoughBelow}
use Rattle.ras_entail.proofs.scanning.instances_of.Given as goal

abbrev pub invariant-loop-number : goal.invariant-loop-number
invariant-loop-number l = AreEnoughBelow l.known.shape.now l.known.premise.now l.list l.number l.instances.items
