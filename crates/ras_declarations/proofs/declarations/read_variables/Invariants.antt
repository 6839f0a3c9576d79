use Rattle.std.proofs.Common.{◌≡◌, ◌++◌, map, take}
use Rattle.std.specs.Prelude.{All}
use Rattle.ras_names.specs.Placed as placed
use Rattle.ras_names.specs.FileChecks.{above_variables, variable_checks}
use Rattle.ras_numbering.specs.FileValues.{variable_value, initial_value}
use Rattle.ras_scope.specs.Placing.{placed_variable, placed_file}
use Rattle.ras_declarations.specs.Declaring.{IsOfSortText}
use Rattle.ras_scope.proofs.Following.{Passed}
use Rattle.ras_declarations.proofs.declarations.read_variables.Given as goal

abbrev pub invariant-loop-variable : goal.invariant-loop-variable
invariant-loop-variable l = record {
  names : l.vars.names ≡ map (λ (v : placed.Variable). v.name.text) (take l.variable-index (map placed_variable l.file.variables.items));
  values : l.vars.values.items ≡ map (variable_value (placed_file l.file)) (take l.variable-index (map placed_variable l.file.variables.items));
  initial : l.initials ≡ map (initial_value (placed_file l.file)) (take l.variable-index (map placed_variable l.file.variables.items));
  sort_texts : All (IsOfSortText (placed_file l.file)) (take l.variable-index (map placed_variable l.file.variables.items));
  shared : l.shared ≡ above_variables (placed_file l.file) ++ map (λ (v : placed.Variable). v.name.text) (take l.variable-index (map placed_variable l.file.variables.items));
  passed : Passed 0 (variable_checks (placed_file l.file)) placed_variable l.file.variables.items l.variable-index;
}
