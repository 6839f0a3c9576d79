use Rattle.std.proofs.Common.{◌-◌}
use Rattle.ras_concrete.proofs.Chains.{IsUnder}
use Rattle.ras_concrete.proofs.concretising.concretise.Given as goal

abbrev pub invariant-loop-at : goal.invariant-loop-at
invariant-loop-at l = IsUnder l.system l.chain l.fn.witness (l.at - 1) l.db l.state l.start l.choices
