use Rattle.std.proofs.Common.{◌≡◌, ◌++◌}
use Rattle.ras_subsumption.proofs.widening.append.Given as goal

abbrev pub invariant-loop-literal : goal.invariant-loop-literal
invariant-loop-literal l = l.literals ≡ l.fn.literals ++ l.yielded
