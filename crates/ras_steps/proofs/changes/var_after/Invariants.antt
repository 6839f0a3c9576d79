use Rattle.std.proofs.Common.{◌≡◌, ℕ, List, drop}
use Rattle.std.specs.Option.{option_map_or}
use Rattle.ras_logic.specs.Truth.{value}
use Rattle.ras_system.specs.declared.update.Update.{Update}
use Rattle.ras_system.specs.Steps.{term_for_var}
use Rattle.ras_steps.specs.Sights.{seen}
use Rattle.ras_steps.proofs.changes.var_after.Given as goal

abbrev pub invariant-loop-update : goal.invariant-loop-update
invariant-loop-update l =
    let after : List Update → ℕ = λ xs. option_map_or (value l.db (seen l.sight)) (term_for_var xs l.number) l.own in after l.updates ≡ after (drop l.update-index l.updates)
