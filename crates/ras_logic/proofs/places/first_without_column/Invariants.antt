use Rattle.std.proofs.Common.{◌<◌, All, List, length, take}
use Rattle.ras_logic.specs.declared.ids.SortId.{SortId}
use Rattle.ras_logic.proofs.places.first_without_column.Given as goal

abbrev pub invariant-loop-n : goal.invariant-loop-n
invariant-loop-n l = All (λ (columns : List SortId). 0 < length columns) (take l.n l.relations)
