use Rattle.std.proofs.Common.{ℕ, List, refl, subst}
use Rattle.ras_logic.specs.Truth.{AreElements}
use Rattle.ras_logic.proofs.AllSteps.{all_step, all_done}
use Rattle.ras_steps.proofs.fitting.rows_fit.Goals as goal

pub loop-cells-preserved : goal.loop-cells-preserved
loop-cells-preserved c =
    all_step (AreElements c.args.db.now c.args.columns.now) c.args.rows.now c.loop-cells.cells-index c.cells-item.result c.loop-cells-test.true c.cells-item.is c.loop-cells.invariant
    (subst (λ (xs : List ℕ). AreElements c.args.db.now c.args.columns.now xs) c.as_slice.ensures.items (c.if-not-are_elements.ensures.0 refl))

pub returns : goal.returns
returns c = (λ _. all_done (AreElements c.args.db.now c.args.columns.now) c.args.rows.now c.loop-cells.cells-index c.loop-cells-test.false c.loop-cells.invariant, λ _. refl)
