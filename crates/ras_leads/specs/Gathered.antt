-- The cubes of several covers, gathered: each once.
use Rattle.std.specs.Prelude.{◌≡◌, ℕ, ◌+◌, ◌-◌, ◌^◌, min, ◌⊎◌, List}
use Rattle.ras_logic.specs.declared.problem.Problem.{Problem}
use Rattle.ras_logic.specs.Schemas.{SchemaParts}
use Rattle.ras_logic.specs.Shapes.{ShapeParts}
use Rattle.ras_logic.specs.Clashes.{FactsClash}
use Rattle.ras_split.specs.Among.{IsAmong}
use Rattle.ras_cubes.specs.Reduced.{IsOnce}
use Rattle.ras_cover.specs.Covers.{IsCover, AreTidy}

-- these were added where they were not there yet, and nothing else
pub record Gathers (old added new : List Problem) : Type 0 where
  pub kept : (c : Problem) → IsAmong old c → IsAmong new c
  pub each : (c : Problem) → IsAmong new c → IsAmong old c ⊎ IsAmong added c
  pub all : (c : Problem) → IsAmong added c → IsAmong new c
  pub once : IsOnce old → IsOnce new

-- the count rose by one where the literals do not clash, and else stands still
abbrev pub CountsOne : SchemaParts → Problem → ℕ → ℕ → Type 0
CountsOne schema p before now =
    (FactsClash schema p.literals × (now ≡ before)) ⊎ ((FactsClash schema p.literals → ⊥) × (now ≡ min (before + 1) (2 ^ 64 - 1)))

-- a cover of the problem that is tidy
pub record IsTidyCover (shape : ShapeParts) (p : Problem) (cover : List Problem) : Type 0 where
  pub is : IsCover shape p cover
  pub tidy : AreTidy shape cover

-- a cube of a cover of one of the problems
pub record IsOfSome (shape : ShapeParts) (problems : List Problem) (c : Problem) : Type 0 where
  pub problem : Problem
  pub cover : List Problem
  pub among : IsAmong problems problem
  pub covers : IsTidyCover shape problem cover
  pub one : IsAmong cover c

-- the cubes of covers of the problems, each once
pub record AreGathered (shape : ShapeParts) (problems cubes : List Problem) : Type 0 where
  pub each : (c : Problem) → IsAmong cubes c → IsOfSome shape problems c
  pub all : (p : Problem) → IsAmong problems p → (cover : List Problem) × IsTidyCover shape p cover × ((c : Problem) → IsAmong cover c → IsAmong cubes c)
  pub once : IsOnce cubes
