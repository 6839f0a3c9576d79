use Rattle.std.proofs.Common.{All, take}
use Rattle.ras_logic.specs.Truth.{AreElements}
use Rattle.ras_steps.proofs.fitting.rows_fit.Given as goal

abbrev pub invariant-loop-cells : goal.invariant-loop-cells
invariant-loop-cells l = All (AreElements l.db l.columns) (take l.cells-index l.rows)
