use Rattle.std.proofs.Common.{[], map, take}
use Rattle.std.specs.Prelude.{All}
use Rattle.ras_names.specs.TermChecks as checks
use Rattle.ras_names.specs.StepChecks.{update_checks}
use Rattle.ras_numbering.specs.FileValues.{update_value}
use Rattle.ras_terms.specs.Assigning.{IsKnownTarget}
use Rattle.ras_scope.specs.Placing.{placed_update}
use Rattle.ras_scope.specs.Seeing.{Sees}
use Rattle.ras_scope.proofs.Reading.{AreRead}
use Rattle.ras_terms.proofs.updates.read_updates.Given as goal

abbrev pub invariant-loop-update : goal.invariant-loop-update
invariant-loop-update l = (seen : checks.Scope) → Sees l.scope seen → record {
  read : AreRead 0 (update_checks seen (map placed_update l.updates)) placed_update (update_value seen) [] l.updates l.update-index l.read;
  known : All (IsKnownTarget seen) (map placed_update (take l.update-index l.updates));
}
