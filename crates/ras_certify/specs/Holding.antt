-- When an obligation holds.
use Rattle.ras_logic.specs.Shapes.{ShapeParts}
use Rattle.ras_system.specs.Obligations.{Obligation}
use Rattle.ras_entail.specs.Entailment.{IsAmong}

-- the states of its premise are among those of its formulas
abbrev pub ObligationHolds : ShapeParts → Obligation → Type 0
ObligationHolds shape o = IsAmong shape o.premise o.formulas
