use Rattle.ras_row_maps.specs.RowMaps.{AreLongerBelow}
use Rattle.ras_row_maps.proofs.maps.longer_maps.Given as goal

abbrev pub invariant-loop-row : goal.invariant-loop-row
invariant-loop-row l = AreLongerBelow l.to l.relation l.map l.row l.longer
