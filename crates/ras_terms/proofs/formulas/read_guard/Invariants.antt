use Rattle.std.proofs.Common.{◌+◌, [], ◌∷◌}
use Rattle.ras_names.specs.TermChecks as checks
use Rattle.ras_names.specs.TermChecks.{disjunct_checks}
use Rattle.ras_numbering.specs.TermValues.{conjunction_value}
use Rattle.ras_scope.specs.Placing.{placed_conjunction, placed_or}
use Rattle.ras_scope.specs.Seeing.{Sees}
use Rattle.ras_scope.proofs.Reading.{AreRead}
use Rattle.ras_terms.proofs.formulas.read_guard.Given as goal

abbrev pub invariant-loop-other : goal.invariant-loop-other
invariant-loop-other l = (seen : checks.Scope) → Sees l.scope seen
    → AreRead (l.above + 1) (disjunct_checks seen) placed_or (conjunction_value seen) (conjunction_value seen (placed_conjunction l.guard.first) ∷ []) l.guard.others.items l.other-index l.disjuncts
