use Rattle.std.proofs.Common.{◌≡◌, ◌++◌}
use Rattle.ras_sat.proofs.pruning.append.Given as goal

abbrev pub invariant-loop-node : goal.invariant-loop-node
invariant-loop-node l = l.nodes ≡ l.fn.nodes ++ l.yielded
