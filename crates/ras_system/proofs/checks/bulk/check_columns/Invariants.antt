use Rattle.std.proofs.Common.{◌≡◌, ◌<◌, ℕ, length, get_or, false, take, nat_eq}
use Rattle.std.specs.List.{list_any}
use Rattle.ras_system.specs.declared.bulk.Assign.{Assign}
use Rattle.ras_system.specs.SystemFaults.{column_checks}
use Rattle.ras_system.proofs.FirstFaults.{Passed}
use Rattle.ras_system.proofs.checks.bulk.check_columns.Given as goal

abbrev pub invariant-loop-assign : goal.invariant-loop-assign
invariant-loop-assign l = record {
  passed : Passed (column_checks l.place l.assigns) l.assigns l.assign-index;
  as_long : length l.seen ≡ 32;
  marks : (column : ℕ) → column < 32 → get_or l.seen column false ≡ list_any (λ (a : Assign). nat_eq a.column column) (take l.assign-index l.assigns);
}
