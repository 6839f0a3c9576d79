use Rattle.std.proofs.Common.{◌≤◌}
use Rattle.ras_system.specs.SystemFaults.{case_checks}
use Rattle.ras_system.proofs.FirstFaults.{Passed}
use Rattle.ras_system.proofs.checks.bulk.check_bulk.Given as goal

abbrev pub invariant-loop-k : goal.invariant-loop-k
invariant-loop-k l = record { passed : Passed (case_checks l.shape l.n l.transition) l.transition.bulk l.k; few : l.k ≤ 8 }
