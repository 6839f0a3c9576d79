use Rattle.std.proofs.Common.{◌≡◌, false, take}
use Rattle.std.specs.List.{list_any}
use Rattle.ras_system.specs.declared.update.Update.{Update}
use Rattle.ras_terms.specs.Assigning.{same_target}
use Rattle.ras_terms.proofs.updates.is_assigned.Given as goal

abbrev pub invariant-loop-update : goal.invariant-loop-update
invariant-loop-update l = list_any (λ (u : Update). same_target u.target l.target) (take l.update-index l.updates) ≡ false
