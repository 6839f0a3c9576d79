use Rattle.std.proofs.Common.{take}
use Rattle.ras_subsumption.specs.Subsumption.{AllHoldUnder}
use Rattle.ras_subsumption.proofs.holding.all_hold_under.Given as goal

abbrev pub invariant-loop-literal : goal.invariant-loop-literal
invariant-loop-literal l = AllHoldUnder l.known.shape.now l.known.premise.now l.map (take l.literal-index l.cube.literals)
