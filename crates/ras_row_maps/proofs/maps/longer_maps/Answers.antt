use Rattle.std.proofs.Common.{ℕ, List, sym, subst}
use Rattle.ras_row_maps.specs.RowMaps.{IsFree}
use Rattle.ras_row_maps.proofs.Longer.{below-free, below-taken}
use Rattle.ras_row_maps.proofs.maps.longer_maps.Goals as goal
use Rattle.ras_row_maps.proofs.maps.longer_maps.Goals.{then-is_free+in_ok-with_row+in_ok-push, else-is_free}
use Rattle.ras_logic.proofs.ByPlace.{no_true}

pub loop-row-preserved : goal.loop-row-preserved
loop-row-preserved c =
    elim c.if-is_free.branch [
      | then-is_free+in_ok-with_row+in_ok-push w ↦
          rw (w.longer-is, w.in_ok-push.ensures.ok)
          (below-free c.args.to.now c.args.relation c.args.map.now c.loop-row.row c.loop-row.longer w.in_ok-with_row.field-0 c.loop-row.invariant
          (subst (λ (map : List ℕ). IsFree c.args.to.now c.args.relation map c.loop-row.row) c.as_slice.ensures.items (c.is_free.ensures.0 w.if-is_free.true)) w.in_ok-with_row.ensures)
      | else-is_free w ↦
          rw w.longer-is
          (below-taken c.args.to.now c.args.relation c.args.map.now c.loop-row.row c.loop-row.longer c.loop-row.invariant
          (λ free. no_true c.is_free.result (c.is_free.ensures.1 (subst (λ (map : List ℕ). IsFree c.args.to.now c.args.relation map c.loop-row.row) (sym c.as_slice.ensures.items) free)) w.if-is_free.false))
    ]
