use Rattle.std.proofs.Common.{◌≡◌, ℕ, List, [], ◌∷◌, length, ap, subst}
use Rattle.std.specs.Prelude.{Result, Ok, Err, flat_map}
use Rattle.ras_logic.specs.declared.problem.Problem.{Problem}
use Rattle.ras_logic.specs.Shapes.{ShapeParts}
use Rattle.ras_bundles.specs.declared.system_lines.TransitionLines.{TransitionLines}
use Rattle.ras_bundles.specs.declared.system_lines.SystemLines.{SystemLines}
use Rattle.ras_bundles.specs.declared.fault.BundleError.{BundleError}
use Rattle.ras_bundles.specs.Checks.{Check, count_checks, cube_checks, each, transition_checks, step_checks}
use Rattle.ras_bundles.specs.Judging.{Judges}
use Rattle.ras_bundles.proofs.LineLaws.{judges-then, stopped, same_error, counted}
use Rattle.ras_bundles.proofs.step_lines.judge_steps.Goals as goal

abbrev all : ShapeParts → List TransitionLines → List (List Check)
all shape ts = flat_map (transition_checks shape) ts

abbrev transition_part : ShapeParts → SystemLines → List (List Check)
transition_part shape l = count_checks 256 (length l.transitions) ∷ all shape l.transitions

abbrev cubes : ShapeParts → List Problem → List (List Check)
cubes shape gs = each (λ _. cube_checks shape) gs

abbrev goal_part : ShapeParts → SystemLines → List (List Check)
goal_part shape l = count_checks 64 (length l.goals) ∷ cubes shape l.goals

module _ (shape : ShapeParts) (l : SystemLines) (ts : List TransitionLines) (same : ts ≡ l.transitions) (first n : ℕ) (count : Judges (count_checks 256 (length l.transitions) ∷ []) first (Ok n)) where
  in_transitions : (r : Result ℕ BundleError) → Judges (all shape ts) n r → Judges (transition_part shape l) first r
  in_transitions r h = judges-then (count_checks 256 (length l.transitions) ∷ []) (all shape l.transitions) first n r count (subst (λ (x : List TransitionLines). Judges (all shape x) n r) same h)

  behind_transitions : (m : ℕ) (r : Result ℕ BundleError) → Judges (all shape ts) n (Ok m) → Judges (goal_part shape l) m r → Judges (step_checks shape l) first r
  behind_transitions m r h g = judges-then (transition_part shape l) (goal_part shape l) first m r (in_transitions (Ok m) h) g

pub returns-in_err-next : goal.returns-in_err-next
returns-in_err-next c =
    let shape = c.args.shape.now in
    let l = c.args.lines.now in
    let e = c.in_err-next.field-0.0 in
    let count = count_checks 256 (length l.transitions) in
    same_error (Judges (step_checks shape l) c.args.first) e c.from_residual.result
    (stopped (transition_part shape l) (goal_part shape l) c.args.first e
    (stopped (count ∷ []) (all shape l.transitions) c.args.first e
    (c.in_err-next.ensures.judges count (counted 256 (length l.transitions) _ _ (ap length c.as_slice-transitions.ensures.items) c.count_fault.ensures))))
    c.from_residual.ensures.1

pub returns-in_err-next-2 : goal.returns-in_err-next-2
returns-in_err-next-2 c =
    let shape = c.args.shape.now in
    let l = c.args.lines.now in
    let e = c.in_err-next-2.field-0.0 in
    let count = count_checks 256 (length l.transitions) in
    same_error (Judges (step_checks shape l) c.args.first) e c.from_residual-in_err-next-2.result
    (stopped (transition_part shape l) (goal_part shape l) c.args.first e
    (in_transitions shape l c.as_slice-transitions.result.now c.as_slice-transitions.ensures.items c.args.first c.in_ok-next.next
    (c.in_ok-next.ensures.judges count (counted 256 (length l.transitions) _ _ (ap length c.as_slice-transitions.ensures.items) c.count_fault.ensures)) (Err e) c.in_err-next-2.ensures.judges))
    c.from_residual-in_err-next-2.ensures.1

pub returns-in_err-next-3 : goal.returns-in_err-next-3
returns-in_err-next-3 c =
    let shape = c.args.shape.now in
    let l = c.args.lines.now in
    let e = c.in_err-next-3.field-0.0 in
    let count = count_checks 256 (length l.transitions) in
    let goals = count_checks 64 (length l.goals) in
    same_error (Judges (step_checks shape l) c.args.first) e c.from_residual-in_err-next-3.result
    (behind_transitions shape l c.as_slice-transitions.result.now c.as_slice-transitions.ensures.items c.args.first c.in_ok-next.next
    (c.in_ok-next.ensures.judges count (counted 256 (length l.transitions) _ _ (ap length c.as_slice-transitions.ensures.items) c.count_fault.ensures)) c.in_ok-next-2.next (Err e) c.in_ok-next-2.ensures.judges
    (stopped (goals ∷ []) (cubes shape l.goals) c.in_ok-next-2.next e
    (c.in_err-next-3.ensures.judges goals (counted 64 (length l.goals) _ _ (ap length c.as_slice-goals.ensures.items) c.count_fault-2.ensures))))
    c.from_residual-in_err-next-3.ensures.1

pub returns : goal.returns
returns c =
    let shape = c.args.shape.now in
    let l = c.args.lines.now in
    let r = c.goal_lines.result in
    let count = count_checks 256 (length l.transitions) in
    let goals = count_checks 64 (length l.goals) in
    behind_transitions shape l c.as_slice-transitions.result.now c.as_slice-transitions.ensures.items c.args.first c.in_ok-next.next
    (c.in_ok-next.ensures.judges count (counted 256 (length l.transitions) _ _ (ap length c.as_slice-transitions.ensures.items) c.count_fault.ensures)) c.in_ok-next-2.next r c.in_ok-next-2.ensures.judges
    (judges-then (goals ∷ []) (cubes shape l.goals) c.in_ok-next-2.next c.in_ok-next-3.next r
    (c.in_ok-next-3.ensures.judges goals (counted 64 (length l.goals) _ _ (ap length c.as_slice-goals.ensures.items) c.count_fault-2.ensures))
    (subst (λ (x : List Problem). Judges (cubes shape x) c.in_ok-next-3.next r) c.as_slice-goals.ensures.items c.goal_lines.ensures.judges))
