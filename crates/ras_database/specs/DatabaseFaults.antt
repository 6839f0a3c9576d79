-- The first fault of numbers that are no database of a schema.
use Rattle.std.specs.Prelude.{◌≡◌, ◌≢◌, ℕ, ◌-◌, ◌<◌, ◌≤◌, List, [], length, get_or, slice_get, true, Some, take, All}
use Rattle.ras_logic.specs.declared.ids.SortId.{SortId}
use Rattle.ras_logic.specs.declared.function.FunDecl.{FunDecl}
use Rattle.ras_logic.specs.declared.raw_db.RawDb.{RawDb}
use Rattle.ras_logic.specs.Schemas.{SchemaParts}
use Rattle.ras_logic.specs.Databases.{size_of, IsElement, image, constant_of, IsTable}
use Rattle.ras_database.specs.declared.db_fault.Part.{Part}
use Rattle.ras_database.specs.declared.db_fault.Part.TheVariants.{Sizes, Tables, Table, Constants}
use Rattle.ras_database.specs.declared.db_fault.DbFault.{DbFault}
use Rattle.ras_database.specs.declared.db_fault.DbFault.TheVariants.{WrongLength, OutOfRange, UndefImage, ConstantClash}

-- the lists have a size for each sort, a table for each function, an element for each constant
pub record HasLengths (s : SchemaParts) (d : RawDb) : Type 0 where
  pub sizes : length d.sizes ≡ s.sorts
  pub tables : length d.tables ≡ length s.functions
  pub constants : length d.constants ≡ length s.constants

-- the table of the function of that number
abbrev pub table_of : RawDb → ℕ → List ℕ
table_of d k = get_or d.tables k []

-- an entry of a table: an element of the target, and not undef where the function is total
pub record IsEntry (d : RawDb) (f : FunDecl) (x : ℕ) : Type 0 where
  pub in_target : IsElement d f.target x
  pub total : f.total ≡ true → 0 < x

-- the functions before that number have tables
abbrev pub AreTablesBefore : SchemaParts → RawDb → ℕ → Type 0
AreTablesBefore s d k = (j : ℕ) (f : FunDecl) → j < k → slice_get s.functions j ≡ Some f → IsTable d f (table_of d j)

-- the lists have their lengths, and the function of that number is the first that may have no table
pub record IsTurn (s : SchemaParts) (d : RawDb) (k : ℕ) (f : FunDecl) : Type 0 where
  pub lengths : HasLengths s d
  pub before : AreTablesBefore s d k
  pub here : slice_get s.functions k ≡ Some f

-- and its table has its length, with entries for the elements before that one
pub record IsEntryTurn (s : SchemaParts) (d : RawDb) (k at : ℕ) (f : FunDecl) : Type 0 where
  pub turn : IsTurn s d k f
  pub as_long : length (table_of d k) ≡ size_of d f.source
  pub element : 0 < at
  pub within : at ≤ length (table_of d k)
  pub entries : All (IsEntry d f) (take (at - 1) (table_of d k))

-- an element of a constant: not undef, and of the constant's sort
pub record IsConstant (d : RawDb) (c : SortId) (x : ℕ) : Type 0 where
  pub defined : 0 < x
  pub in_sort : IsElement d c x

-- two constants of one sort with one element, the first named first
pub record IsClash (s : SchemaParts) (d : RawDb) (first second : ℕ) : Type 0 where
  pub earlier : first < second
  pub sort : SortId
  pub first_sort : slice_get s.constants first ≡ Some sort
  pub second_sort : slice_get s.constants second ≡ Some sort
  pub same : constant_of d first ≡ constant_of d second

-- the constants before that number are elements, no two the same of one sort
pub record AreConstantsBefore (s : SchemaParts) (d : RawDb) (k : ℕ) : Type 0 where
  pub each : (j : ℕ) (c : SortId) → j < k → slice_get s.constants j ≡ Some c → IsConstant d c (constant_of d j)
  pub apart : (i j : ℕ) → j < k → IsClash s d i j → ⊥

-- the lists have their lengths, each function has a table, and the constant of that number is the first that may be none
pub record IsConstantTurn (s : SchemaParts) (d : RawDb) (k : ℕ) (c : SortId) : Type 0 where
  pub lengths : HasLengths s d
  pub tables : AreTablesBefore s d (length s.functions)
  pub before : AreConstantsBefore s d k
  pub here : slice_get s.constants k ≡ Some c

-- The lengths of the lists; then each table, its length, then its entries from element 1 on, an element of the target before no
-- undef; then each constant, an element before no clash with an earlier one.
abbrev pub IsDatabaseFault : SchemaParts → RawDb → DbFault → Type 0
IsDatabaseFault s d (WrongLength Sizes place) = (place ≡ 0) × (length d.sizes ≢ s.sorts)
IsDatabaseFault s d (WrongLength Tables place) = (place ≡ 0) × (length d.sizes ≡ s.sorts) × (length d.tables ≢ length s.functions)
IsDatabaseFault s d (WrongLength Constants place) =
    (place ≡ 0) × (length d.sizes ≡ s.sorts) × (length d.tables ≡ length s.functions) × (length d.constants ≢ length s.constants)
IsDatabaseFault s d (WrongLength Table place) = (f : FunDecl) × IsTurn s d place f × (length (table_of d place) ≢ size_of d f.source)
IsDatabaseFault s d (OutOfRange Table place at) = (f : FunDecl) × IsEntryTurn s d place at f × (size_of d f.target < image d place at)
IsDatabaseFault s d (OutOfRange Constants place at) =
    (c : SortId) × IsConstantTurn s d place c × (at ≡ 0) × (IsConstant d c (constant_of d place) → ⊥)
IsDatabaseFault s d (OutOfRange part place at) = ⊥
IsDatabaseFault s d (UndefImage f at) = (decl : FunDecl) × IsEntryTurn s d f.n at decl × (decl.total ≡ true) × (image d f.n at ≡ 0)
IsDatabaseFault s d (ConstantClash first second) =
    (c : SortId) × IsConstantTurn s d second.n c × IsConstant d c (constant_of d second.n) × IsClash s d first.n second.n
