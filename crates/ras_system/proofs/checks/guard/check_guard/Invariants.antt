use Rattle.std.proofs.Common.{◌≤◌}
use Rattle.ras_system.specs.SystemFaults.{disjunct_checks}
use Rattle.ras_system.proofs.FirstFaults.{Passed}
use Rattle.ras_system.proofs.checks.guard.check_guard.Given as goal

abbrev pub invariant-loop-k : goal.invariant-loop-k
invariant-loop-k l = record { passed : Passed (disjunct_checks l.shape l.n l.transition) l.transition.guard l.k; few : l.k ≤ 64 }
