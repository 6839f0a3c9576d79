-- What a cover of a problem is: cubes without data parameters that say of the rest just what the problem says.
use Rattle.std.specs.Prelude.{◌≡◌, ℕ, List, [], All, Any, slice_get, Some}
use Rattle.ras_logic.specs.declared.literal.Literal.{Literal}
use Rattle.ras_logic.specs.declared.problem.Problem.{Problem}
use Rattle.ras_logic.specs.declared.raw_db.RawDb.{RawDb}
use Rattle.ras_logic.specs.declared.values.Values.{Values}
use Rattle.ras_logic.specs.Shapes.{ShapeParts}
use Rattle.ras_logic.specs.Databases.{IsDatabase, Extends}
use Rattle.ras_logic.specs.Formulas.{Fits, IsCube}
use Rattle.ras_logic.specs.Clashes.{FactsClash}
use Rattle.ras_logic.specs.Truth.{Satisfies}
use Rattle.ras_cubes.specs.Reduced.{IsOnce}

-- the values with these of the data parameters
abbrev pub with_params : Values → List ℕ → Values
with_params v params = record v { params = params }

-- the values of variables and rows alone
abbrev pub bare : Values → Values
bare v = with_params v []

-- the values satisfy one of the problems
abbrev pub SatisfiesAny : ShapeParts → RawDb → Values → List Problem → Type 0
SatisfiesAny shape d v problems = Any (Satisfies shape d v) problems

-- cubes that do not clash, and have no literal twice
pub record AreTidy (shape : ShapeParts) (cubes : List Problem) : Type 0 where
  pub no_clash : All (λ (c : Problem). FactsClash shape.schema c.literals → ⊥) cubes
  pub once : All (λ (c : Problem). IsOnce c.literals) cubes

-- cubes that fit, with the problem's rows
pub record AreCubesOf (shape : ShapeParts) (p : Problem) (cubes : List Problem) : Type 0 where
  pub fit : All (Fits shape) cubes
  pub are_cubes : All IsCube cubes
  pub rows : All (λ (c : Problem). c.rows ≡ p.rows) cubes

-- whatever satisfies the problem satisfies some cube under the same rows
abbrev pub AreImplied : ShapeParts → Problem → List Problem → Type 0
AreImplied shape p cubes = (d : RawDb) (v : Values) → IsDatabase shape.schema d → Satisfies shape d v p → SatisfiesAny shape d (bare v) cubes

-- whatever satisfies some cube satisfies some cube of each other list that the problem implies
abbrev pub AreStrongest : ShapeParts → Problem → List Problem → Type 0
AreStrongest shape p cubes =
    (others : List Problem) → AreCubesOf shape p others → AreImplied shape p others
    → (d : RawDb) (v : Values) → IsDatabase shape.schema d → SatisfiesAny shape d v cubes → SatisfiesAny shape d v others

-- a database that extends this one, and elements of it for the data parameters, satisfy the problem together with the values
pub record HasExtension (shape : ShapeParts) (p : Problem) (d : RawDb) (v : Values) : Type 0 where
  pub larger : RawDb
  pub params : List ℕ
  pub database : IsDatabase shape.schema larger
  pub extends : Extends larger d
  pub satisfied : Satisfies shape larger (with_params v params) p

-- a database that extends the smaller one, and values that satisfy the problem and agree on variables and rows
pub record IsExtension (shape : ShapeParts) (p : Problem) (smaller : RawDb) (given : Values) (larger : RawDb) (v : Values) : Type 0 where
  pub database : IsDatabase shape.schema larger
  pub extends : Extends larger smaller
  pub vars : v.vars ≡ given.vars
  pub rows : v.rows ≡ given.rows
  pub satisfied : Satisfies shape larger v p

-- whatever satisfies some cube can be extended to what satisfies the problem
abbrev pub AreExtendable : ShapeParts → Problem → List Problem → Type 0
AreExtendable shape p cubes = (d : RawDb) (v : Values) → IsDatabase shape.schema d → SatisfiesAny shape d v cubes → HasExtension shape p d v

-- a cover of the problem
pub record IsCover (shape : ShapeParts) (p : Problem) (cubes : List Problem) : Type 0 where
  pub cubes_of : AreCubesOf shape p cubes
  pub implied : AreImplied shape p cubes
  pub strongest : AreStrongest shape p cubes
  pub extendable : AreExtendable shape p cubes
