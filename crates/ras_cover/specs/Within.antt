-- Lists of cubes without those that others cover.
use Rattle.std.specs.Prelude.{◌≡◌, ◌⊎◌, List}
use Rattle.ras_logic.specs.declared.problem.Problem.{Problem}
use Rattle.ras_logic.specs.declared.literal.Literal.{Literal}
use Rattle.ras_logic.specs.declared.raw_db.RawDb.{RawDb}
use Rattle.ras_logic.specs.declared.values.Values.{Values}
use Rattle.ras_logic.specs.Shapes.{ShapeParts}
use Rattle.ras_logic.specs.Databases.{IsDatabase}
use Rattle.ras_logic.specs.Truth.{Satisfies}
use Rattle.ras_split.specs.Among.{IsAmong}
use Rattle.ras_cover.specs.Covers.{SatisfiesAny}

-- wherever the problem is satisfied, one of the list is
abbrev pub IsWithin : ShapeParts → Problem → List Problem → Type 0
IsWithin shape p cubes = (d : RawDb) (v : Values) → IsDatabase shape.schema d → Satisfies shape d v p → SatisfiesAny shape d v cubes

-- two problems of the same rows and data parameters
pub record AreAlike (p q : Problem) : Type 0 where
  pub rows : q.rows ≡ p.rows
  pub params : q.params ≡ p.params

-- each literal of the cube q is one of p
abbrev pub IsCoveredBy : Problem → Problem → Type 0
IsCoveredBy p q = (l : Literal) → IsAmong q.literals l → IsAmong p.literals l

-- some of the cubes, and the others are covered by p
pub record AreOthers (old : List Problem) (p : Problem) (new : List Problem) : Type 0 where
  pub each : (q : Problem) → IsAmong new q → IsAmong old q
  pub all : (q : Problem) → IsAmong old q → IsAmong new q ⊎ IsCoveredBy q p

-- a cube was added: it and the old ones are within the new ones
pub record Admits (shape : ShapeParts) (old : List Problem) (p : Problem) (new : List Problem) : Type 0 where
  pub each : (q : Problem) → IsAmong new q → IsAmong old q ⊎ (q ≡ p)
  pub added : IsWithin shape p new
  pub kept : (q : Problem) → IsAmong old q → IsWithin shape q new
