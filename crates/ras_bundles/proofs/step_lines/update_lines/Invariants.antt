use Rattle.ras_bundles.specs.Checks.{update_checks}
use Rattle.ras_bundles.proofs.LineLaws.{Passed}
use Rattle.ras_bundles.proofs.step_lines.update_lines.Given as goal

abbrev pub invariant-loop-n : goal.invariant-loop-n
invariant-loop-n l = Passed (update_checks l.shape l.transition) l.transition.updates l.first l.n
