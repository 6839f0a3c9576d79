-- Covered preimages: cubes that a state meets exactly where it leads into a cube, in its own database or in a larger one.
use Rattle.std.specs.Prelude.{◌≡◌, ◌↔◌, ℕ, ◌+◌, ◌-◌, ◌^◌, min, List, [], ◌∷◌, length, All, Any}
use Rattle.ras_logic.specs.declared.raw_db.RawDb.{RawDb}
use Rattle.ras_logic.specs.declared.problem.Problem.{Problem}
use Rattle.ras_logic.specs.Schemas.{SchemaParts}
use Rattle.ras_logic.specs.Shapes.{ShapeParts}
use Rattle.ras_logic.specs.Formulas.{Fits, IsCube}
use Rattle.ras_logic.specs.Clashes.{FactsClash}
use Rattle.ras_system.specs.declared.state.State.{State}
use Rattle.ras_system.specs.Systems.{SystemParts}
use Rattle.ras_system.specs.States.{MeetsAny}
use Rattle.ras_extension.specs.Reaching.{IsStateIn, Leads}

-- in every database, a state meets one of the cubes exactly where it leads by the transition into the cube
abbrev pub AreMetWhereLeading : SystemParts → ℕ → Problem → List Problem → Type 0
AreMetWhereLeading system transition cube cubes = (d : RawDb) (s : State) → IsStateIn system d s → (MeetsAny d s cubes ↔ Leads system d s transition cube)

-- cubes that fit, each with the rows of one of the problems
pub record AreCubesOfSome (shape : ShapeParts) (problems cubes : List Problem) : Type 0 where
  pub fit : All (Fits shape) cubes
  pub are_cubes : All IsCube cubes
  pub rows : All (λ (c : Problem). Any (λ (p : Problem). c.rows ≡ p.rows) problems) cubes

-- the second list has those of the first whose literals do not clash, in order
pub data AreOpen (schema : SchemaParts) : List Problem → List Problem → Type 0 where
  nothing : AreOpen schema [] []
  clashing : (p : Problem) (problems open_ones : List Problem) → FactsClash schema p.literals → AreOpen schema problems open_ones
      → AreOpen schema (p ∷ problems) open_ones
  one_more : (p : Problem) (problems open_ones : List Problem) → (FactsClash schema p.literals → ⊥) → AreOpen schema problems open_ones
      → AreOpen schema (p ∷ problems) (p ∷ open_ones)

-- a count rose by one for each problem whose literals do not clash, or stands at its greatest value
pub record CountsOpen (schema : SchemaParts) (problems : List Problem) (before now : ℕ) : Type 0 where
  pub open_ones : List Problem
  pub are : AreOpen schema problems open_ones
  pub rose : now ≡ min (before + length open_ones) (2 ^ 64 - 1)
