use Rattle.std.proofs.Common.{List, [], map, take, sym, ◌∙◌, subst, arith}
use Rattle.std.specs.Prelude.{All}
use Rattle.std.proofs.lemmas.List.{take-map}
use Rattle.std.proofs.lemmas.List.Elements.{All-push}
use Rattle.ras_names.specs.Placed as placed
use Rattle.ras_names.specs.Checks.{for_each}
use Rattle.ras_names.specs.StepChecks.{update_checks}
use Rattle.ras_names.proofs.Passing.{Passes}
use Rattle.ras_numbering.specs.FileValues.{update_value}
use Rattle.ras_scope.specs.Answering.{Faults}
use Rattle.ras_terms.specs.Assigning.{update_checks_behind, IsKnownTarget}
use Rattle.ras_scope.specs.Placing.{placed_update}
use Rattle.ras_scope.proofs.Following.{handed}
use Rattle.ras_terms.proofs.ReadAssigned.{target_passes}
use Rattle.ras_scope.proofs.Reading.{places_more, one_more, one_faults}
use Rattle.ras_terms.proofs.updates.read_updates.Goals as goal

pub returns-in_err-next-clause-checks : goal.returns-in_err-next-clause-checks
returns-in_err-next-clause-checks c = λ seen sees.
    let xs = c.args.updates.now in
    let n = c.loop-update.update-index in
    let x = c.update-item.result in
    let e = c.in_err-next.field-0.0 in
    let all = map placed_update xs in
    let above = map placed_update (take n xs) in
    let h = c.loop-update.invariant seen sees in
    let fault = c.in_err-next.ensures.checks seen above sees (c.as_slice.ensures.items ∙ h.read.read) h.known in
    handed (for_each (update_checks seen all) all) c.from_residual.result e c.from_residual.ensures.1
    (one_faults 0 (update_checks seen all) placed_update (update_value seen) [] xs n n x c.loop-update.read e c.loop-update-test.true c.update-item.is (omega arith) h.read
    (subst (λ (ws : List placed.Update). Faults (update_checks_behind seen ws (placed_update x)) e) (sym (take-map placed_update n xs)) fault))

pub loop-update-preserved : goal.loop-update-preserved
loop-update-preserved c = λ seen sees.
    let xs = c.args.updates.now in
    let n = c.loop-update.update-index in
    let x = c.update-item.result in
    let all = map placed_update xs in
    let above = map placed_update (take n xs) in
    let h = c.loop-update.invariant seen sees in
    let pass = c.in_ok-next.ensures.checks seen above sees (c.as_slice.ensures.items ∙ h.read.read) h.known in record {
      read = one_more 0 (update_checks seen all) placed_update (update_value seen) [] xs n n x c.loop-update.read c.push.new.self c.in_ok-next.next c.loop-update-test.true c.update-item.is (omega arith) h.read
          (subst (λ (ws : List placed.Update). Passes (update_checks_behind seen ws (placed_update x))) (sym (take-map placed_update n xs)) pass) c.in_ok-push.ensures.ok (c.in_ok-next.ensures.value seen sees);
      known = subst (All (IsKnownTarget seen)) (sym (places_more placed_update xs n x c.loop-update-test.true c.update-item.is))
          (All-push (IsKnownTarget seen) above (placed_update x) h.known (target_passes seen above (placed_update x) pass));
    }
