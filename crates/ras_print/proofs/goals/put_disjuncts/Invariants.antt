use Rattle.std.proofs.Common.{◌≡◌, ℕ, ◌++◌, List, take, map, flat_map, codes}
use Rattle.ras_print.specs.Printed.{goal_item}
use Rattle.ras_names.specs.Canonical.{conjunction_text}
use Rattle.ras_print.proofs.goals.put_disjuncts.Given as goal

abbrev pub invariant-loop-goal : goal.invariant-loop-goal
invariant-loop-goal l = l.out.items ≡ l.initial.out.items ++ flat_map (λ (u : List ℕ). codes " or " ++ u) (map conjunction_text (map (goal_item l.names l.item) (take l.goal-index l.others)))
