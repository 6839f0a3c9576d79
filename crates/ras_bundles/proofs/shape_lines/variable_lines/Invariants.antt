use Rattle.ras_bundles.specs.Checks.{variable_checks}
use Rattle.ras_bundles.proofs.LineLaws.{Passed}
use Rattle.ras_bundles.proofs.shape_lines.variable_lines.Given as goal

abbrev pub invariant-loop-n : goal.invariant-loop-n
invariant-loop-n l = Passed (λ _. variable_checks l.lines) l.lines.variables l.first l.n
