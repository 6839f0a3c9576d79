use Rattle.std.proofs.Common.{◌≤◌, take, All}
use Rattle.ras_logic.specs.Formulas.{IsCube}
use Rattle.ras_system.specs.SystemFaults.{goal_checks}
use Rattle.ras_system.proofs.FirstFaults.{Passed}
use Rattle.ras_system.proofs.checks.goals.check_goals.Given as goal

abbrev pub invariant-loop-n : goal.invariant-loop-n
invariant-loop-n l = record {
  passed : Passed (goal_checks l.shape) l.goals l.n;
  few : l.n ≤ 64;
  cubes : All IsCube (take l.n l.goals);
}
