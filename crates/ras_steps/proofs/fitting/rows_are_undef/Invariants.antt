use Rattle.std.proofs.Common.{◌≡◌, All, take}
use Rattle.ras_steps.proofs.fitting.rows_are_undef.Given as goal

abbrev pub invariant-loop-cells : goal.invariant-loop-cells
invariant-loop-cells l = All (All (λ x. x ≡ 0)) (take l.cells-index l.rows)
