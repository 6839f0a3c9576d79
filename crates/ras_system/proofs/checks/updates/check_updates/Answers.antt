use Rattle.std.proofs.Common.{◌<◌, ◌+◌, ℕ, nat_eq, get_or, length, false, refl, sym, ◌∙◌, ap, subst, length-set}
use Rattle.std.proofs.lemmas.List.{get_or-replicate}
use Rattle.ras_system.specs.declared.update.Update.{Update}
use Rattle.ras_system.specs.SystemFaults.{update_checks, is_same_target, for_each}
use Rattle.ras_system.specs.Slots.{slot_of}
use Rattle.ras_system.proofs.FirstFaults.{passed_more, passed_fault, found_answer, fault_answer}
use Rattle.ras_system.proofs.Marks.{mark_more, count_more, slot_within, no_mark, is_same_target-slots, target_repeats, target_fresh, update_misfit}
use Rattle.ras_system.proofs.checks.updates.check_updates.Goals as goal

pub loop-k-init : goal.loop-k-init
loop-k-init c = record { passed = refl; as_long = refl; marks = λ t h. get_or-replicate 320 (slot_of t) false false (slot_within t h); counted = no_mark 320 }

pub returns-in_err-check_update : goal.returns-in_err-check_update
returns-in_err-check_update c =
    fault_answer (for_each (update_checks c.args.shape.now c.args.n c.args.transition.now) c.args.transition.now.updates) c.from_residual.result c.in_err-check_update.field-0.0 c.from_residual.ensures.1
    (passed_fault (update_checks c.args.shape.now c.args.n c.args.transition.now) c.args.transition.now.updates c.as_slice-updates.result.now c.loop-k.k c.index-updates-k.result
    c.in_err-check_update.field-0.0 c.as_slice-updates.ensures.items c.loop-k-test.true c.index-updates-k.is c.loop-k.invariant.passed
    (update_misfit c.args.shape.now c.args.n c.args.transition.now c.loop-k.k c.index-updates-k.result c.in_err-check_update.field-0.0 c.in_err-check_update.ensures.first))

pub returns-then-seen-slot : goal.returns-then-seen-slot
returns-then-seen-slot c =
    found_answer (for_each (update_checks c.args.shape.now c.args.n c.args.transition.now) c.args.transition.now.updates) c.fault.result _ c.fault.ensures
    (passed_fault (update_checks c.args.shape.now c.args.n c.args.transition.now) c.args.transition.now.updates c.as_slice-updates.result.now c.loop-k.k c.index-updates-k.result
    _ c.as_slice-updates.ensures.items c.loop-k-test.true c.index-updates-k.is c.loop-k.invariant.passed
    (target_repeats c.args.shape.now c.args.n c.args.transition.now c.loop-k.k c.index-updates-k.result c.in_ok-check_update.ensures.first
    (sym (c.loop-k.invariant.marks c.index-updates-k.result.target c.in_ok-check_update.ensures.slot)
    ∙ ap (λ (slot : ℕ). get_or c.loop-k.seen slot false) (sym c.slot_of-slot.ensures.value) ∙ c.if-seen-slot.true)))

pub loop-k-preserved : goal.loop-k-preserved
loop-k-preserved c =
    let within : c.slot_of-slot.result < length c.loop-k.seen = subst (λ (n : ℕ). c.slot_of-slot.result < n) (sym c.loop-k.invariant.as_long) c.slot_of-slot.ensures.within in
    record {
      passed = passed_more (update_checks c.args.shape.now c.args.n c.args.transition.now) c.args.transition.now.updates c.as_slice-updates.result.now c.loop-k.k c.index-updates-k.result
          c.as_slice-updates.ensures.items c.loop-k-test.true c.index-updates-k.is c.loop-k.invariant.passed
          (target_fresh c.args.shape.now c.args.n c.args.transition.now c.loop-k.k c.index-updates-k.result c.in_ok-check_update.ensures.first
          (sym (c.loop-k.invariant.marks c.index-updates-k.result.target c.in_ok-check_update.ensures.slot)
          ∙ ap (λ (slot : ℕ). get_or c.loop-k.seen slot false) (sym c.slot_of-slot.ensures.value) ∙ c.if-seen-slot.false));
      as_long = simp length-set c.loop-k.invariant.as_long;
      marks = λ t h. mark_more (λ (u : Update). is_same_target u.target t) c.args.transition.now.updates c.as_slice-updates.result.now c.loop-k.k c.index-updates-k.result c.loop-k.seen
          (slot_of t) c.slot_of-slot.result c.as_slice-updates.ensures.items c.loop-k-test.true c.index-updates-k.is within
          (is_same_target-slots c.index-updates-k.result.target t c.in_ok-check_update.ensures.slot h ∙ ap (λ (slot : ℕ). nat_eq slot (slot_of t)) (sym c.slot_of-slot.ensures.value))
          (c.loop-k.invariant.marks t h);
      counted = count_more c.loop-k.seen c.slot_of-slot.result within c.if-seen-slot.false ∙ ap (λ (n : ℕ). n + 1) c.loop-k.invariant.counted;
    }
