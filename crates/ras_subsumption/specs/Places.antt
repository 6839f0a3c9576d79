-- The first of some row maps under which a cube holds.
use Rattle.std.specs.Prelude.{ℕ, ◌<◌, List, [], length, get_or, take, All}
use Rattle.ras_logic.specs.declared.problem.Problem.{Problem}
use Rattle.ras_logic.specs.Shapes.{ShapeParts}
use Rattle.ras_subsumption.specs.Subsumption.{EntailsBy}

-- under none of these row maps every literal of the other cube holds wherever this one does
abbrev pub HasNoPlace : ShapeParts → Problem → Problem → List (List ℕ) → Type 0
HasNoPlace shape cube other maps = All (λ (map : List ℕ). ¬ EntailsBy shape cube other map) maps

-- under the map at this place every literal does, and under none before
pub record IsFirstPlace (shape : ShapeParts) (cube other : Problem) (maps : List (List ℕ)) (place : ℕ) : Type 0 where
  pub within : place < length maps
  pub entails : EntailsBy shape cube other (get_or maps place [])
  pub before : HasNoPlace shape cube other (take place maps)
