use Rattle.std.proofs.Common.{take}
use Rattle.ras_sat.specs.Choices.{HoldsNone}
use Rattle.ras_sat.proofs.choice.holds_some.Given as goal

abbrev pub invariant-loop-literal : goal.invariant-loop-literal
invariant-loop-literal l = HoldsNone l.model.db l.model.values (take l.literal-index l.literals)
