use Rattle.std.proofs.Common.{ℕ, List, [], ◌∷◌, ◌++◌, take, sym, ◌∙◌, ap}
use Rattle.ras_steps.specs.Sights.{seen}
use Rattle.ras_steps.proofs.RowChanges.{new_rows, rows_more}
use Rattle.ras_steps.proofs.rows.rows_after.Goals as goal

pub loop-row-preserved : goal.loop-row-preserved
loop-row-preserved c =
    let d = c.args.db.now in
    let v = seen c.args.sight.now in
    let t = c.args.transition.now in
    let chosen = c.args.sight.now.chosen.now in
    let rows = c.args.rows.now in
    let i = c.loop-row.row in
    c.in_ok-push.ensures.ok ∙ ap (λ (xs : List (List ℕ)). xs ++ c.in_ok-cells.cells ∷ []) c.loop-row.invariant
    ∙ ap (λ (x : List ℕ). new_rows d v t chosen c.args.relation (take i rows) ++ x ∷ []) c.in_ok-cells.ensures
    ∙ sym (rows_more d v t chosen c.args.relation rows i c.index-rows-row.result c.loop-row-test.true c.index-rows-row.is)
