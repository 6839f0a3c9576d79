use Rattle.std.proofs.Common.{[], map, take}
use Rattle.std.specs.Prelude.{All}
use Rattle.ras_names.specs.Placed as placed
use Rattle.ras_names.specs.TermChecks as checks
use Rattle.ras_names.specs.StepChecks.{assignment_checks}
use Rattle.ras_numbering.specs.FileValues.{assignment_value}
use Rattle.ras_terms.specs.Cases.{IsRowOf, IsKnownColumn, columns_of}
use Rattle.ras_scope.specs.Placing.{placed_assignment}
use Rattle.ras_scope.specs.Seeing.{Sees}
use Rattle.ras_scope.proofs.Reading.{AreRead}
use Rattle.ras_terms.proofs.cases.read_assignments.Given as goal

abbrev pub invariant-loop-assignment : goal.invariant-loop-assignment
invariant-loop-assignment l = (seen : checks.Scope) (e : placed.Each) → Sees l.scope seen → IsRowOf seen.file l.each e → record {
  read : AreRead 0 (assignment_checks seen e (map placed_assignment l.assignments)) placed_assignment (assignment_value seen (columns_of seen e)) [] l.assignments l.assignment-index l.assigns;
  known : All (IsKnownColumn seen e) (map placed_assignment (take l.assignment-index l.assignments));
}
