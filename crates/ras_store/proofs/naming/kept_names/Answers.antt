use Rattle.std.proofs.Common.{refl}
use Rattle.ras_logic.proofs.ByPlace.{not_true}
use Rattle.ras_core.proofs.Booking.{false_is_not}
use Rattle.ras_store.proofs.Names.{kept_on, kept_past}
use Rattle.ras_store.proofs.naming.kept_names.Goals.{then-is_kept+in_ok-name+in_ok-push, else-is_kept}
use Rattle.ras_store.proofs.naming.kept_names.Goals as goal

pub loop-number-preserved : goal.loop-number-preserved
loop-number-preserved c = elim c.if-is_kept.branch [
  | then-is_kept+in_ok-name+in_ok-push w ↦ rw w.names-is
      (kept_on c.loop-number.number c.args.entries.now c.loop-number.names.items w.push.new.self.items c.index-entries-number.result w.in_ok-name.field-0
      c.loop-number-test.true c.index-entries-number.is (w.if-is_kept.ensures.0 refl) c.loop-number.invariant w.in_ok-name.ensures w.in_ok-push.ensures.items)
  | else-is_kept w ↦ rw w.names-is
      (kept_past c.loop-number.number c.args.entries.now c.loop-number.names.items c.index-entries-number.result
      c.loop-number-test.true c.index-entries-number.is
      (not_true c.index-entries-number.result.kept (λ h. false_is_not (w.if-is_kept.ensures.1 h))) c.loop-number.invariant)
]
