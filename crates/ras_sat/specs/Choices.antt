-- Which instances a model falsifies.
use Rattle.std.specs.Prelude.{◌≡◌, ℕ, ◌⊎◌, true, false, List, Option, Some, None, All, Contains, MatchOption}
use Rattle.ras_logic.specs.declared.literal.Literal.{Literal}
use Rattle.ras_logic.specs.declared.raw_db.RawDb.{RawDb}
use Rattle.ras_logic.specs.declared.values.Values.{Values}
use Rattle.ras_logic.specs.Truth.{holds}
use Rattle.ras_closure.specs.declared.model.Model.{Model}
use Rattle.ras_sat.specs.declared.choice.Choice.{Choice}

-- one of the literals holds
abbrev pub HoldsSome : RawDb → Values → List Literal → Type 0
HoldsSome d v literals = (l : Literal) × Contains literals l × (holds d v l ≡ true)

-- none of the literals holds
abbrev pub HoldsNone : RawDb → Values → List Literal → Type 0
HoldsNone d v literals = All (λ (l : Literal). holds d v l ≡ false) literals

-- The best choice is none only where there was none and the instance is falsified; else it is the one that there was, or the
-- instance, which is not falsified.
abbrev pub IsConsidered : Model → ℕ → List Literal → Option Choice → Option Choice → Type 0
IsConsidered m instance opposites before after =
    MatchOption after ((before ≡ None) × HoldsSome m.db m.values opposites)
    (λ (c : Choice). (before ≡ Some c) ⊎ ((c.instance ≡ instance) × HoldsNone m.db m.values opposites))
