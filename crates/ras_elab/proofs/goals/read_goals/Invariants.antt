use Rattle.std.proofs.Common.{◌≡◌, map, take}
use Rattle.std.specs.Prelude.{flat_map}
use Rattle.ras_names.specs.Placed as placed
use Rattle.ras_names.specs.Unplaced.{goal_of}
use Rattle.ras_names.specs.FileNames.{names_of_goal}
use Rattle.ras_names.specs.FileChecks.{goal_checks}
use Rattle.ras_numbering.specs.FileValues.{goal_values}
use Rattle.ras_scope.specs.Placing.{placed_goal, placed_file}
use Rattle.ras_scope.proofs.Following.{Passed}
use Rattle.ras_elab.proofs.goals.read_goals.Given as goal

abbrev pub invariant-loop-goal : goal.invariant-loop-goal
invariant-loop-goal l = record {
  cubes : l.cubes ≡ flat_map (goal_values (placed_file l.file)) (take l.goal-index (map placed_goal l.file.goals.items));
  names : l.names ≡ map (λ (g : placed.Goal). names_of_goal (goal_of g)) (take l.goal-index (map placed_goal l.file.goals.items));
  passed : Passed 0 (goal_checks (placed_file l.file)) placed_goal l.file.goals.items l.goal-index;
}
