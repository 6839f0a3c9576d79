use Rattle.std.proofs.Common.{◌≡◌, ◌++◌, take, flat_map}
use Rattle.ras_text.specs.Pieces.{words}
use Rattle.ras_violation.proofs.writing.put_cells.Given as goal

abbrev pub invariant-loop-cells : goal.invariant-loop-cells
invariant-loop-cells l = l.out.items ≡ l.initial.out.items ++ flat_map words (take l.cells-index l.rows)
