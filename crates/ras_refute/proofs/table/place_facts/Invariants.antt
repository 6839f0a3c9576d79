use Rattle.std.proofs.Common.{take}
use Rattle.ras_refute.specs.Tables.{AddsFacts}
use Rattle.ras_refute.proofs.table.place_facts.Given as goal

abbrev pub invariant-loop-fact : goal.invariant-loop-fact
invariant-loop-fact l = AddsFacts l.fn.entries l.entries (take l.fact-index l.facts) l.sides
