use Rattle.std.proofs.Common.{take}
use Rattle.ras_reasons.specs.Marking.{IsMarking}
use Rattle.ras_reasons.proofs.named.marks_of.Given as goal

abbrev pub invariant-loop-node : goal.invariant-loop-node
invariant-loop-node l = IsMarking (take l.node-index l.nodes) l.count l.marks.items
