-- What terms are read in at a step.
use Rattle.std.specs.Prelude.{ℕ, List, Option, Some, None}
use Rattle.std.specs.Option.{option_copied}
use Rattle.ras_logic.specs.declared.ids.RelId.{RelId}
use Rattle.ras_logic.specs.declared.values.Values.{Values}
use Rattle.ras_system.specs.declared.state.State.{State}
use Rattle.ras_system.specs.States.{values_at}
use Rattle.ras_system.specs.Steps.{with_row}
use Rattle.ras_steps.specs.declared.sight.Sight.{Sight}

-- values, and in a bulk case those of the updated row
abbrev pub with_updated : Values → Option (List ℕ) → Values
with_updated v None = v
with_updated v (Some cells) = with_row v cells

-- the values of the state's variables, of the chosen rows and of the data parameters, and in a bulk case those of the updated row
abbrev pub seen : Sight → Values
seen s = with_updated (values_at s.state.now s.relations.now s.chosen.now s.params.now) (option_copied s.row)
