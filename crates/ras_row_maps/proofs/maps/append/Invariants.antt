use Rattle.std.proofs.Common.{◌≡◌, ◌++◌}
use Rattle.ras_row_maps.proofs.maps.append.Given as goal

abbrev pub invariant-loop-map : goal.invariant-loop-map
invariant-loop-map l = l.maps ≡ l.fn.maps ++ l.yielded
