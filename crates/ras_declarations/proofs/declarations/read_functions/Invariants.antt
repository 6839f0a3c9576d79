use Rattle.std.proofs.Common.{◌≡◌, ◌++◌, map, take}
use Rattle.std.specs.Prelude.{All}
use Rattle.ras_logic.specs.Schemas.{HasSorts}
use Rattle.ras_names.specs.TermChecks.{function_texts}
use Rattle.ras_names.specs.FileChecks.{above_functions, function_checks}
use Rattle.ras_numbering.specs.FileValues.{function_value}
use Rattle.ras_scope.specs.Placing.{placed_function, placed_file}
use Rattle.ras_scope.specs.Agreeing.{HasSortTexts}
use Rattle.ras_scope.proofs.Following.{Passed}
use Rattle.ras_declarations.proofs.declarations.read_functions.Given as goal

abbrev pub invariant-loop-function : goal.invariant-loop-function
invariant-loop-function l = record {
  names : l.functions.names ≡ function_texts (take l.function-index (map placed_function l.file.functions.items));
  values : l.functions.values.items ≡ map (function_value (placed_file l.file)) (take l.function-index (map placed_function l.file.functions.items));
  sort_texts : All (HasSortTexts (placed_file l.file)) (take l.function-index (map placed_function l.file.functions.items));
  known : All (HasSorts 64) l.functions.values.items;
  shared : l.shared ≡ above_functions (placed_file l.file) ++ function_texts (take l.function-index (map placed_function l.file.functions.items));
  passed : Passed 0 (function_checks (placed_file l.file)) placed_function l.file.functions.items l.function-index;
}
