use Rattle.std.proofs.Common.{◌≡◌, ◌++◌, map, take}
use Rattle.std.specs.Prelude.{All}
use Rattle.ras_names.specs.Checks.{declared_texts}
use Rattle.ras_names.specs.FileChecks.{above_constants, constant_checks}
use Rattle.ras_numbering.specs.Numbers.{declared_sort}
use Rattle.ras_scope.specs.Placing.{placed_constant, placed_file}
use Rattle.ras_scope.specs.Agreeing.{IsOfSort}
use Rattle.ras_scope.proofs.Following.{Passed}
use Rattle.ras_declarations.proofs.declarations.read_constants.Given as goal

abbrev pub invariant-loop-constant : goal.invariant-loop-constant
invariant-loop-constant l = record {
  names : l.constants.names ≡ declared_texts (take l.constant-index (map placed_constant l.file.constants.items));
  values : l.constants.values.items ≡ map (declared_sort (placed_file l.file)) (take l.constant-index (map placed_constant l.file.constants.items));
  sort_texts : All (IsOfSort (placed_file l.file)) (take l.constant-index (map placed_constant l.file.constants.items));
  shared : l.shared ≡ above_constants (placed_file l.file) ++ declared_texts (take l.constant-index (map placed_constant l.file.constants.items));
  passed : Passed 0 (constant_checks (placed_file l.file)) placed_constant l.file.constants.items l.constant-index;
}
