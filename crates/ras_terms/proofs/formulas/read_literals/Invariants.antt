use Rattle.std.proofs.Common.{[], ◌∷◌}
use Rattle.ras_names.specs.TermChecks as checks
use Rattle.ras_names.specs.TermChecks.{literal_checks}
use Rattle.ras_numbering.specs.TermValues.{literal_value}
use Rattle.ras_scope.specs.Placing.{placed_and, placed_literal}
use Rattle.ras_scope.specs.Seeing.{Sees}
use Rattle.ras_scope.proofs.Reading.{AreRead}
use Rattle.ras_terms.proofs.formulas.read_literals.Given as goal

abbrev pub invariant-loop-other : goal.invariant-loop-other
invariant-loop-other l = (seen : checks.Scope) → Sees l.scope seen
    → AreRead 1 (literal_checks seen l.limit) placed_and (literal_value seen) (literal_value seen (placed_literal l.first) ∷ []) l.others l.other-index l.literals
