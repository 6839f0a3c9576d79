use Rattle.std.proofs.Common.{◌≤◌}
use Rattle.ras_sat.proofs.choice.open_children.Given as goal

abbrev pub invariant-loop-opposite : goal.invariant-loop-opposite
invariant-loop-opposite l = l.open ≤ l.opposite-index
