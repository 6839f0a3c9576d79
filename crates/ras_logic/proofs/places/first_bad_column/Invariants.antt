use Rattle.std.proofs.Common.{◌≡◌, ◌≤◌, ◌*◌, All, length, take}
use Rattle.ras_logic.specs.Schemas.{IsSort}
use Rattle.ras_logic.specs.ShapeFaults.{all_columns}
use Rattle.ras_logic.proofs.places.first_bad_column.Given as goal

abbrev pub invariant-loop-columns : goal.invariant-loop-columns
invariant-loop-columns l = record {
  good : All (All (IsSort l.sorts)) (take l.columns-index l.relations);
  counted : l.before ≡ length (all_columns (take l.columns-index l.relations));
  few : l.before ≤ 32 * l.columns-index;
}
