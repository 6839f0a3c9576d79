use Rattle.std.proofs.Common.{◌<◌, None, length, not, refl, ◌∙◌, ap, arith}
use Rattle.ras_preimage.proofs.Rows.{rest-matched, rest-unmatched, rest-all}
use Rattle.ras_preimage.proofs.unmatched_rows.unmatched_rows.Goals as goal
use Rattle.ras_preimage.proofs.unmatched_rows.unmatched_rows.Goals.{then-is_none+in_ok-row_number+in_ok-push, else-is_none}

pub loop-i-preserved : goal.loop-i-preserved
loop-i-preserved c =
    let first : c.loop-i.i < length c.args.rows.now = omega (arith, c.loop-i-test.true, c.min-count.ensures) in
    let second : c.loop-i.i < length c.args.matched.now = omega (arith, c.loop-i-test.true, c.min-count.ensures) in
    elim c.if-is_none.branch [
      | then-is_none+in_ok-row_number+in_ok-push w ↦ record {
        unmatched = rest-unmatched c.args.rows.now c.args.matched.now c.loop-i.i (record { n = 0 }) None first second c.loop-i.next c.if-is_none.next _ c.loop-i.unmatched c.if-is_none.unmatched _
            (c.is_none.ensures ∙ ap not w.if-is_none.true) (w.unmatched-is ∙ w.in_ok-push.ensures.ok) w.in_ok-row_number.ensures refl w.next-is c.loop-i.invariant.unmatched;
        few = omega (arith, w.next-is, c.loop-i.invariant.few);
      }
      | else-is_none w ↦ record {
        unmatched = rest-matched c.args.rows.now c.args.matched.now c.loop-i.i (record { n = 0 }) None first second c.loop-i.next c.if-is_none.next c.loop-i.unmatched c.if-is_none.unmatched _
            (c.is_none.ensures ∙ ap not w.if-is_none.false) w.unmatched-is w.next-is c.loop-i.invariant.unmatched;
        few = omega (arith, w.next-is, c.loop-i.invariant.few);
      }
    ]

pub returns : goal.returns
returns c = rest-all _ c.args.rows.now c.args.matched.now c.loop-i.i _ _ _ c.min-count.ensures c.loop-i-test.false c.loop-i.invariant.unmatched
