use Rattle.std.proofs.Common.{◌≡◌, length, get_or, false, take}
use Rattle.std.specs.List.{list_any, count_by}
use Rattle.ras_system.specs.declared.update.Target.{Target}
use Rattle.ras_system.specs.declared.update.Update.{Update}
use Rattle.ras_system.specs.SystemFaults.{update_checks, is_same_target}
use Rattle.ras_system.specs.Slots.{HasSlot, slot_of}
use Rattle.ras_system.proofs.FirstFaults.{Passed}
use Rattle.ras_system.proofs.checks.updates.check_updates.Given as goal

abbrev pub invariant-loop-k : goal.invariant-loop-k
invariant-loop-k l = record {
  passed : Passed (update_checks l.shape l.n l.transition) l.transition.updates l.k;
  as_long : length l.seen ≡ 320;
  marks : (t : Target) → HasSlot t → get_or l.seen (slot_of t) false ≡ list_any (λ (u : Update). is_same_target u.target t) (take l.k l.transition.updates);
  counted : count_by (λ b. b) l.seen ≡ l.k;
}
