use Rattle.std.proofs.Common.{◌≡◌, ◌≤◌, map, take}
use Rattle.ras_names.specs.Checks.{texts}
use Rattle.ras_names.specs.FileChecks.{sort_checks}
use Rattle.ras_scope.specs.Placing.{placed_sort, placed_file}
use Rattle.ras_scope.proofs.Following.{Passed}
use Rattle.ras_declarations.proofs.declarations.read_sorts.Given as goal

abbrev pub invariant-loop-sort : goal.invariant-loop-sort
invariant-loop-sort l = record {
  read : l.sorts ≡ texts (take l.sort-index (map placed_sort l.file.sorts.items));
  shared : l.shared ≡ texts (take l.sort-index (map placed_sort l.file.sorts.items));
  few : l.sort-index ≤ 64;
  passed : Passed 0 (sort_checks (placed_file l.file)) placed_sort l.file.sorts.items l.sort-index;
}
