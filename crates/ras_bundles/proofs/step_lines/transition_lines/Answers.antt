use Rattle.std.proofs.Common.{◌≡◌, ℕ, List, [], ◌∷◌, length, refl, sym, ap, subst}
use Rattle.std.specs.Prelude.{Result, Ok, Err}
use Rattle.ras_logic.specs.declared.problem.Problem.{Problem}
use Rattle.ras_logic.specs.Shapes.{ShapeParts}
use Rattle.ras_bundles.specs.declared.system_lines.TransitionLines.{TransitionLines}
use Rattle.ras_bundles.specs.declared.fault.BundleError.{BundleError}
use Rattle.ras_bundles.specs.Checks.{Check, guard_checks, cube_checks, update_checks, each, transition_checks}
use Rattle.ras_bundles.specs.Judging.{Judges}
use Rattle.ras_bundles.proofs.LineLaws.{judges-then, stopped, same_error}
use Rattle.ras_bundles.proofs.step_lines.transition_lines.Goals as goal

abbrev cubes : ShapeParts → List Problem → List (List Check)
cubes shape guard = each (λ _. cube_checks shape) guard

abbrev guard_part : ShapeParts → TransitionLines → List (List Check)
guard_part shape t = guard_checks t ∷ cubes shape t.guard

abbrev updates : ShapeParts → TransitionLines → List (List Check)
updates shape t = each (update_checks shape t) t.updates

abbrev update_part : ShapeParts → TransitionLines → List (List Check)
update_part shape t = [] ∷ updates shape t

module _ (shape : ShapeParts) (t : TransitionLines) (guard : List Problem) (same : guard ≡ t.guard) (first n : ℕ) (count : Judges (guard_checks t ∷ []) first (Ok n)) where
  in_guard : (r : Result ℕ BundleError) → Judges (cubes shape guard) n r → Judges (guard_part shape t) first r
  in_guard r h = judges-then (guard_checks t ∷ []) (cubes shape t.guard) first n r count (subst (λ (g : List Problem). Judges (cubes shape g) n r) same h)

  behind_guard : (m : ℕ) (r : Result ℕ BundleError) → Judges (cubes shape guard) n (Ok m) → Judges (update_part shape t) m r → Judges (transition_checks shape t) first r
  behind_guard m r all h = judges-then (guard_part shape t) (update_part shape t) first m r (in_guard (Ok m) all) h

pub returns-in_err-next-clause-judges : goal.returns-in_err-next-clause-judges
returns-in_err-next-clause-judges c =
    let shape = c.args.shape.now in
    let t = c.args.transition.now in
    let e = c.in_err-next.field-0.0 in
    same_error (Judges (transition_checks shape t) c.args.first) e c.from_residual.result
    (stopped (guard_part shape t) (update_part shape t) c.args.first e
    (stopped (guard_checks t ∷ []) (cubes shape t.guard) c.args.first e (c.in_err-next.ensures.judges (guard_checks t) (sym (c.guard_fault.ensures t (ap length (sym c.as_slice-guard.ensures.items)))))))
    c.from_residual.ensures.1

pub returns-in_err-next-2-clause-judges : goal.returns-in_err-next-2-clause-judges
returns-in_err-next-2-clause-judges c =
    let shape = c.args.shape.now in
    let t = c.args.transition.now in
    let e = c.in_err-next-2.field-0.0 in
    same_error (Judges (transition_checks shape t) c.args.first) e c.from_residual-in_err-next-2.result
    (stopped (guard_part shape t) (update_part shape t) c.args.first e
    (in_guard shape t c.as_slice-guard.result.now c.as_slice-guard.ensures.items c.args.first c.in_ok-next.next
    (c.in_ok-next.ensures.judges (guard_checks t) (sym (c.guard_fault.ensures t (ap length (sym c.as_slice-guard.ensures.items))))) (Err e) c.in_err-next-2.ensures.judges))
    c.from_residual-in_err-next-2.ensures.1

pub returns-in_err-next-3-clause-judges : goal.returns-in_err-next-3-clause-judges
returns-in_err-next-3-clause-judges c =
    let shape = c.args.shape.now in
    let t = c.args.transition.now in
    let e = c.in_err-next-3.field-0.0 in
    same_error (Judges (transition_checks shape t) c.args.first) e c.from_residual-in_err-next-3.result
    (behind_guard shape t c.as_slice-guard.result.now c.as_slice-guard.ensures.items c.args.first c.in_ok-next.next
    (c.in_ok-next.ensures.judges (guard_checks t) (sym (c.guard_fault.ensures t (ap length (sym c.as_slice-guard.ensures.items))))) c.in_ok-next-2.next (Err e) c.in_ok-next-2.ensures.judges
    (stopped ([] ∷ []) (updates shape t) c.in_ok-next-2.next e (c.in_err-next-3.ensures.judges [] refl)))
    c.from_residual-in_err-next-3.ensures.1

pub returns-clause-judges : goal.returns-clause-judges
returns-clause-judges c =
    let shape = c.args.shape.now in
    let t = c.args.transition.now in
    let r = c.update_lines.result in
    behind_guard shape t c.as_slice-guard.result.now c.as_slice-guard.ensures.items c.args.first c.in_ok-next.next
    (c.in_ok-next.ensures.judges (guard_checks t) (sym (c.guard_fault.ensures t (ap length (sym c.as_slice-guard.ensures.items))))) c.in_ok-next-2.next r c.in_ok-next-2.ensures.judges
    (judges-then ([] ∷ []) (updates shape t) c.in_ok-next-2.next c.in_ok-next-3.next r (c.in_ok-next-3.ensures.judges [] refl) c.update_lines.ensures.judges)
