use Rattle.ras_entail.specs.Scans.{AddsMaps}
use Rattle.ras_entail.proofs.scanning.scan_maps.Given as goal

abbrev pub invariant-loop-rows : goal.invariant-loop-rows
invariant-loop-rows l = AddsMaps l.known.shape.now l.known.premise.now l.cube l.formula l.yielded l.fn.instances.items l.instances.items
