use Rattle.std.proofs.Common.{◌≡◌, ◌<◌, ℕ, List, [], length, get_or, All, refl, sym, subst, arith, below_more}
use Rattle.std.proofs.lemmas.Option.{get_or_from_slice_get}
use Rattle.ras_logic.specs.declared.ids.SortId.{SortId}
use Rattle.ras_logic.specs.Truth.{AreElements}
use Rattle.ras_steps.proofs.fitting.relations_fit.Goals as goal

pub loop-n-preserved : goal.loop-n-preserved
loop-n-preserved c =
    let d = c.args.db.now in
    let relations = c.args.shape.now.relations in
    let n = c.loop-n.n in
    below_more (λ (q : ℕ). All (AreElements d (get_or relations q [])) (get_or c.args.state.now.relations q [])) n c.loop-n.invariant
    (subst (λ (rows : List (List ℕ)). All (AreElements d (get_or relations n [])) rows) c.rows_of.ensures.rows
    (subst (λ (columns : List SortId). All (AreElements d columns) c.rows_of.result.now) (sym (get_or_from_slice_get relations n c.columns.result.now [] c.columns.ensures))
    (c.if-not-rows_fit.ensures.0 refl)))

pub returns-then-not-rows_fit : goal.returns-then-not-rows_fit
returns-then-not-rows_fit c =
    let d = c.args.db.now in
    let relations = c.args.shape.now.relations in
    let n = c.loop-n.n in
    let lt : n < length relations = omega (arith, c.relation_count-n-end.ensures) in (
      λ h. absurd (cc),
      λ all. c.if-not-rows_fit.ensures.1
          (subst (λ (rows : List (List ℕ)). All (AreElements d c.columns.result.now) rows) (sym c.rows_of.ensures.rows)
          (subst (λ (columns : List SortId). All (AreElements d columns) (get_or c.args.state.now.relations n [])) (get_or_from_slice_get relations n c.columns.result.now [] c.columns.ensures)
          (all (record { n = n }) lt))),
    )
