use Rattle.std.proofs.Common.{[], ◌∙◌, arith}
use Rattle.ras_entail.proofs.StateRows.{rows-here, rows-other}
use Rattle.ras_entail.proofs.states.rows_in.Goals as goal
use Rattle.ras_entail.proofs.states.rows_in.Goals.{then-is_of+in_ok-copy+in_ok-push, else-is_of}
use Rattle.std.proofs.lemmas.List.{get_or_default}
use Rattle.ras_logic.proofs.ByPlace.{no_true}

pub loop-row-preserved : goal.loop-row-preserved
loop-row-preserved c =
    elim c.if-is_of.branch [
      | then-is_of+in_ok-copy+in_ok-push w ↦
          rw (w.found-is, w.in_ok-push.ensures.ok)
          (rows-here c.args.rows.now c.args.cells.now c.args.relation c.loop-row.row c.loop-row.found w.in_ok-copy.field-0 c.loop-row.invariant (c.is_of.ensures.0 w.if-is_of.true)
          (w.in_ok-copy.ensures ∙ w.index-cells-row.is ∙ get_or_default c.args.cells.now c.loop-row.row w.index-cells-row.result [] (omega (arith, c.loop-row-test.true, c.requires))))
      | else-is_of w ↦
          rw w.found-is
          (rows-other c.args.rows.now c.args.cells.now c.args.relation c.loop-row.row c.loop-row.found c.loop-row.invariant (λ here. no_true c.is_of.result (c.is_of.ensures.1 here) w.if-is_of.false))
    ]
