use Rattle.std.proofs.Common.{◌≤◌}
use Rattle.ras_system.specs.SystemFaults.{transition_checks}
use Rattle.ras_system.proofs.FirstFaults.{Passed}
use Rattle.ras_system.proofs.checks.transitions.check_transitions.Given as goal

abbrev pub invariant-loop-n : goal.invariant-loop-n
invariant-loop-n l = record { passed : Passed (transition_checks l.shape) l.transitions l.n; few : l.n ≤ 256 }
