use Rattle.std.proofs.Common.{◌+◌, [], ◌∷◌, ◌++◌, length}
use Rattle.ras_names.specs.TermChecks as checks
use Rattle.ras_names.specs.StepChecks.{case_checks}
use Rattle.ras_numbering.specs.FileValues.{case_value}
use Rattle.ras_terms.specs.Cases.{IsRowOf}
use Rattle.ras_scope.specs.Placing.{placed_case, placed_each}
use Rattle.ras_scope.specs.Seeing.{Sees}
use Rattle.ras_scope.proofs.Reading.{AreRead}
use Rattle.ras_terms.proofs.cases.read_each.Given as goal

abbrev pub invariant-loop-case : goal.invariant-loop-case
invariant-loop-case l = (seen : checks.Scope) → Sees l.inside seen → IsRowOf seen.file l.row (placed_each l.each)
    → AreRead (length l.fn.bulk + 1) (case_checks seen (placed_each l.each)) placed_case (case_value seen (placed_each l.each))
    (l.fn.bulk ++ case_value seen (placed_each l.each) (placed_case l.each.first) ∷ []) l.each.others.items l.case-index l.bulk
