use Rattle.std.proofs.Common.{◌≤◌, All, List, length, take}
use Rattle.ras_logic.specs.declared.ids.SortId.{SortId}
use Rattle.ras_logic.proofs.places.has_wide.Given as goal

abbrev pub invariant-loop-columns : goal.invariant-loop-columns
invariant-loop-columns l = All (λ (columns : List SortId). length columns ≤ 32) (take l.columns-index l.relations)
