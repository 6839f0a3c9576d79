-- The instances by which a list is scanned.
use Rattle.std.specs.Prelude.{◌≡◌, ℕ, true, false, ◌<◌, ◌⊎◌, List, slice_get, Some, All, Contains}
use Rattle.ras_logic.specs.declared.raw_db.RawDb.{RawDb}
use Rattle.ras_logic.specs.declared.values.Values.{Values}
use Rattle.ras_logic.specs.declared.literal.Literal.{Literal}
use Rattle.ras_logic.specs.declared.problem.Problem.{Problem}
use Rattle.ras_logic.specs.Shapes.{ShapeParts}
use Rattle.ras_logic.specs.Databases.{IsDatabase}
use Rattle.ras_logic.specs.Formulas.{replace}
use Rattle.ras_logic.specs.Truth.{Satisfies}
use Rattle.ras_logic.specs.Refutations.{AreRowsOf, chosen_row}
use Rattle.ras_sat.specs.declared.instance.Instance.{Instance}
use Rattle.ras_sat.specs.Instances.{IsInstance, IsFalsified}
use Rattle.ras_known.specs.Knowledge.{IsTruth}

-- under these rows some literal of the formula fails wherever the premise holds
abbrev pub FailsUnder : ShapeParts → Problem → Problem → List ℕ → Type 0
FailsUnder shape premise formula rows = (l : Literal) × Contains formula.literals l × IsTruth shape premise (replace (chosen_row rows) l) false

-- the formula's instance under these rows
abbrev pub instance : ℕ → List ℕ → Instance
instance formula rows = record { formula = formula; rows = rows }

-- the formula's instance under these rows was added, or fails wherever the premise holds
pub record AddsMap (shape : ShapeParts) (premise cube : Problem) (formula : ℕ) (rows : List ℕ) (old new : List Instance) : Type 0 where
  pub each : (i : Instance) → Contains new i → Contains old i ⊎ (i ≡ instance formula rows)
  pub kept : (i : Instance) → Contains old i → Contains new i
  pub found : Contains new (instance formula rows) ⊎ FailsUnder shape premise cube rows

-- the same of each of these row maps
pub record AddsMaps (shape : ShapeParts) (premise cube : Problem) (formula : ℕ) (maps : List (List ℕ)) (old new : List Instance) : Type 0 where
  pub each : (i : Instance) → Contains new i → Contains old i ⊎ ((rows : List ℕ) × Contains maps rows × (i ≡ instance formula rows))
  pub kept : (i : Instance) → Contains old i → Contains new i
  pub found : (rows : List ℕ) → Contains maps rows → Contains new (instance formula rows) ⊎ FailsUnder shape premise cube rows

-- an instance of the formula of which every literal holds wherever the premise does
pub record IsHeld (shape : ShapeParts) (premise cube : Problem) (formula : ℕ) (i : Instance) : Type 0 where
  pub of_formula : i.formula ≡ formula
  pub rows_of : AreRowsOf premise.rows cube.rows i.rows
  pub holds : All (λ (l : Literal). IsTruth shape premise (replace (chosen_row i.rows) l) true) cube.literals

-- the same of some formula of the list
abbrev pub IsHeldIn : ShapeParts → Problem → List Problem → Instance → Type 0
IsHeldIn shape premise list i = (cube : Problem) × (slice_get list i.formula ≡ Some cube) × IsHeld shape premise cube i.formula i

-- an instance that is not among these is falsified wherever the premise holds
abbrev pub IsFoundOrFails : ShapeParts → Problem → List Problem → List Instance → Instance → Type 0
IsFoundOrFails shape premise list found i =
    (d : RawDb) (v : Values) → IsDatabase shape.schema d → Satisfies shape d v premise → Contains found i ⊎ IsFalsified d v list i

-- the instances of one cube of the list were added, all but such as fail wherever the premise holds
pub record AddsInstances (shape : ShapeParts) (premise : Problem) (list : List Problem) (number : ℕ) (old new : List Instance) : Type 0 where
  pub each : (i : Instance) → Contains new i → Contains old i ⊎ IsInstance premise.rows list i
  pub kept : (i : Instance) → Contains old i → Contains new i
  pub every : (i : Instance) → IsInstance premise.rows list i → i.formula ≡ number → IsFoundOrFails shape premise list new i

-- the same of the first cubes of the list
pub record AreEnoughBelow (shape : ShapeParts) (premise : Problem) (list : List Problem) (below : ℕ) (found : List Instance) : Type 0 where
  pub each : All (IsInstance premise.rows list) found
  pub every : (i : Instance) → IsInstance premise.rows list i → i.formula < below → IsFoundOrFails shape premise list found i

-- instances of the list's cubes: wherever the premise holds and each of them is falsified, every instance is
pub record AreEnough (shape : ShapeParts) (premise : Problem) (list : List Problem) (found : List Instance) : Type 0 where
  pub each : All (IsInstance premise.rows list) found
  pub every : (d : RawDb) (v : Values) → IsDatabase shape.schema d → Satisfies shape d v premise → All (IsFalsified d v list) found
      → (i : Instance) → IsInstance premise.rows list i → IsFalsified d v list i
