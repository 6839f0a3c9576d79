use Rattle.std.proofs.Common.{◌≡◌, ◌++◌, map, take}
use Rattle.ras_names.specs.Placed as placed
use Rattle.ras_names.specs.Unplaced.{step_of}
use Rattle.ras_names.specs.FileNames.{names_of_step}
use Rattle.ras_names.specs.FileChecks.{above_steps, step_checks}
use Rattle.ras_numbering.specs.FileValues.{step_value}
use Rattle.ras_scope.specs.Agreeing.{Agrees}
use Rattle.ras_scope.specs.Placing.{placed_step, placed_file}
use Rattle.ras_scope.proofs.Following.{Passed}
use Rattle.ras_elab.proofs.steps.read_steps.Given as goal

abbrev pub invariant-loop-step : goal.invariant-loop-step
invariant-loop-step l = record {
  agrees : Agrees (placed_file l.file) l.declared;
  transitions : l.transitions ≡ map (step_value (placed_file l.file)) (take l.step-index (map placed_step l.file.steps.items));
  names : l.names ≡ map (λ (s : placed.Step). names_of_step (step_of s)) (take l.step-index (map placed_step l.file.steps.items));
  shared : l.declared.shared ≡ above_steps (placed_file l.file) ++ map (λ (s : placed.Step). s.name.text) (take l.step-index (map placed_step l.file.steps.items));
  passed : Passed 0 (step_checks (placed_file l.file)) placed_step l.file.steps.items l.step-index;
}
