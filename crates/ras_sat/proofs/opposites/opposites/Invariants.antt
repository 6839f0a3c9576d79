use Rattle.std.proofs.Common.{◌≡◌, take}
use Rattle.ras_sat.specs.Tasks.{opposites_of_literals}
use Rattle.ras_sat.proofs.opposites.opposites.Given as goal

abbrev pub invariant-loop-literal : goal.invariant-loop-literal
invariant-loop-literal l = l.opposites ≡ opposites_of_literals l.chosen (take l.literal-index l.literals)
