-- What a database of a schema is, and when one extends another.
use Rattle.std.specs.Prelude.{◌≡◌, ℕ, zero, suc, ◌<◌, ◌≤◌, List, [], length, get_or, slice_get, true, Some}
use Rattle.ras_logic.specs.declared.ids.SortId.{SortId}
use Rattle.ras_logic.specs.declared.function.FunDecl.{FunDecl}
use Rattle.ras_logic.specs.declared.raw_db.RawDb.{RawDb}
use Rattle.ras_logic.specs.Schemas.{SchemaParts}

-- the size of a sort
abbrev pub size_of : RawDb → SortId → ℕ
size_of d s = get_or d.sizes s.n 0

-- the elements of a sort are 0 to its size, and 0 is undef
abbrev pub IsElement : RawDb → SortId → ℕ → Type 0
IsElement d s x = x ≤ size_of d s

-- the image of an element under the function of that number: undef's is undef, and is not in the table
abbrev pub image : RawDb → ℕ → ℕ → ℕ
image d f zero = 0
image d f (suc k) = get_or (get_or d.tables f []) k 0

-- the element of the constant of that number
abbrev pub constant_of : RawDb → ℕ → ℕ
constant_of d c = get_or d.constants c 0

-- the table of a function: an element of the target for each element of the source, and never undef where the function is total
pub record IsTable (d : RawDb) (f : FunDecl) (table : List ℕ) : Type 0 where
  pub as_long : length table ≡ size_of d f.source
  pub in_target : (k : ℕ) → k < length table → IsElement d f.target (get_or table k 0)
  pub total : f.total ≡ true → (k : ℕ) → k < length table → 0 < get_or table k 0

-- a database of the schema: constants are no undef, and two of one sort are different
pub record IsDatabase (s : SchemaParts) (d : RawDb) : Type 0 where
  pub sizes : length d.sizes ≡ s.sorts
  pub tables : length d.tables ≡ length s.functions
  pub each_table : (k : ℕ) (f : FunDecl) → slice_get s.functions k ≡ Some f → IsTable d f (get_or d.tables k [])
  pub constants : length d.constants ≡ length s.constants
  pub each_constant : (k : ℕ) (c : SortId) → slice_get s.constants k ≡ Some c → (0 < constant_of d k) × IsElement d c (constant_of d k)
  pub apart : (j k : ℕ) (c : SortId) → slice_get s.constants j ≡ Some c → slice_get s.constants k ≡ Some c
      → constant_of d j ≡ constant_of d k → j ≡ k

-- For databases of one schema: no sort of the larger is smaller, and its tables and constants agree with the smaller's on
-- the smaller's elements.
pub record Extends (larger smaller : RawDb) : Type 0 where
  pub sizes : (s : ℕ) → get_or smaller.sizes s 0 ≤ get_or larger.sizes s 0
  pub tables : (f k : ℕ) → k < length (get_or smaller.tables f []) → slice_get (get_or larger.tables f []) k ≡ slice_get (get_or smaller.tables f []) k
  pub constants : larger.constants ≡ smaller.constants
