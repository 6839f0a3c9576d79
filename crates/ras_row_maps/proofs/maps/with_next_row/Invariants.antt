use Rattle.std.proofs.Common.{get_or}
use Rattle.ras_row_maps.proofs.Longer.{AreLongerOf}
use Rattle.ras_row_maps.proofs.maps.with_next_row.Given as goal

abbrev pub invariant-loop-map : goal.invariant-loop-map
invariant-loop-map l = AreLongerOf l.to (get_or l.from l.done (record { n = 0 })) l.maps l.map-index l.all
