use Rattle.std.proofs.Common.{◌≡◌, ℕ, List, drop}
use Rattle.std.specs.Option.{option_map_or}
use Rattle.ras_logic.specs.Truth.{value}
use Rattle.ras_system.specs.declared.bulk.Assign.{Assign}
use Rattle.ras_system.specs.Steps.{term_for_column}
use Rattle.ras_steps.specs.Sights.{seen}
use Rattle.ras_steps.proofs.changes.column_after.Given as goal

abbrev pub invariant-loop-assign : goal.invariant-loop-assign
invariant-loop-assign l =
    let after : List Assign → ℕ = λ xs. option_map_or (value l.db (seen l.sight)) (term_for_column xs l.column) l.own in after l.assigns ≡ after (drop l.assign-index l.assigns)
