use Rattle.std.proofs.Common.{take}
use Rattle.ras_row_maps.specs.RowMaps.{AreRowMaps}
use Rattle.ras_row_maps.proofs.maps.row_maps.Given as goal

abbrev pub invariant-loop-done : goal.invariant-loop-done
invariant-loop-done l = AreRowMaps (take l.done l.from) l.to l.maps
