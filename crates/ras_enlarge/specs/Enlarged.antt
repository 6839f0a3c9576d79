-- When the cube of a case holds in a database, and what then satisfies its problem in a larger one.
use Rattle.std.specs.Prelude.{◌≡◌, ℕ, ◌<◌, List, [], slice_get, Some, None}
use Rattle.ras_logic.specs.declared.problem.Problem.{Problem}
use Rattle.ras_logic.specs.declared.literal.Literal.{Literal}
use Rattle.ras_logic.specs.declared.raw_db.RawDb.{RawDb}
use Rattle.ras_logic.specs.declared.values.Values.{Values}
use Rattle.ras_logic.specs.Databases.{IsDatabase}
use Rattle.ras_logic.specs.Truth.{AreValues, AllHold}
use Rattle.ras_closure.specs.Closures.{IsFactOf}
use Rattle.ras_split.specs.Among.{IsAmong}
use Rattle.ras_cover.specs.Covers.{IsExtension}
use Rattle.ras_split.specs.Standing.{CaseParts}
use Rattle.ras_cubes.specs.Dues.{IsCubeOfCase}

-- a case of a problem whose literals were asserted, over a database of its shape, with values
pub record IsCaseOver (c : CaseParts) (d : RawDb) (v : Values) : Type 0 where
  pub no_clash : c.closure.clash ≡ None
  pub facts : (l : Literal) → IsAmong c.closure.table.problem.literals l → IsFactOf c.closure l
  pub database : IsDatabase c.closure.table.shape.schema d
  pub values : AreValues c.closure.table.shape d c.closure.table.problem.rows [] v

-- the cube of the case does not hold
pub record IsMissed (d : RawDb) (v : Values) (c : CaseParts) : Type 0 where
  pub cube : Problem
  pub of : IsCubeOfCase c cube
  pub missed : AllHold d v cube.literals → ⊥

-- those of the first n cases do not
abbrev pub AreMissed : List CaseParts → ℕ → RawDb → Values → Type 0
AreMissed cases n d v = (k : ℕ) (c : CaseParts) → k < n → slice_get cases k ≡ Some c → IsMissed d v c

-- one of the cases is satisfied in the larger database
pub record IsExtensionOfSome (cases : List CaseParts) (p : Problem) (d : RawDb) (v : Values) (larger : RawDb) (w : Values) : Type 0 where
  pub one : CaseParts
  pub among : IsAmong cases one
  pub extension : IsExtension one.closure.table.shape p d v larger w
