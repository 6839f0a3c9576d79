use Rattle.ras_bundles.specs.Checks.{cube_checks}
use Rattle.ras_bundles.proofs.LineLaws.{Passed}
use Rattle.ras_bundles.proofs.step_lines.goal_lines.Given as goal

abbrev pub invariant-loop-n : goal.invariant-loop-n
invariant-loop-n l = Passed (λ _. cube_checks l.shape) l.cubes l.first l.n
