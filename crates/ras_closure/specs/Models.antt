-- The database and values that elements for terms and a size for each sort give.
use Rattle.std.specs.Prelude.{◌≡◌, ℕ, ◌+◌, ◌<◌, ◌⊎◌, Bool, List, [], length, get_or, slice_get, Some, if◌then◌else◌}
use Rattle.ras_logic.specs.declared.ids.FunId.{FunId}
use Rattle.ras_logic.specs.declared.ids.SortId.{SortId}
use Rattle.ras_logic.specs.declared.function.FunDecl.{FunDecl}
use Rattle.ras_logic.specs.declared.term.Term.{Term}
use Rattle.ras_logic.specs.declared.raw_db.RawDb.{RawDb}
use Rattle.ras_logic.specs.declared.values.Values.{Values}
use Rattle.ras_logic.specs.Terms.{image_term}
use Rattle.ras_logic.specs.Schemas.{SchemaParts}
use Rattle.ras_logic.specs.Databases.{size_of, constant_of}
use Rattle.ras_closure.specs.Numbered.{IsAt, TableParts}
use Rattle.ras_closure.specs.Elements.{number, AreNumbered}
use Rattle.ras_closure.specs.Images.{HasNoImage}
use Rattle.ras_closure.specs.Spares.{AreLacking, AreSpares, sized}
use Rattle.ras_closure.specs.Values.{AreModelValues}

-- The image of an element: that of a term with that element, or else undef, or under a total function the last element.
abbrev pub IsImage : List Term → (ℕ → ℕ) → (SortId → ℕ) → FunId → FunDecl → ℕ → ℕ → Type 0
IsImage terms number size f decl x y =
    ((i : ℕ) × (k : ℕ) × (t : Term) × IsAt terms i t × IsAt terms k (image_term t f) × (number i ≡ x) × (y ≡ number k))
    ⊎ (HasNoImage terms number f x × (y ≡ (if decl.total then size decl.target else 0)))

-- the images of the elements from 1 on
pub record IsTableOf (terms : List Term) (number : ℕ → ℕ) (size : SortId → ℕ) (f : FunId) (decl : FunDecl) (table : List ℕ) : Type 0 where
  pub long : length table ≡ size decl.source
  pub images : (k : ℕ) → k < length table → IsImage terms number size f decl (k + 1) (get_or table k 0)

-- the tables of the first functions
pub record AreTables (schema : SchemaParts) (terms : List Term) (number : ℕ → ℕ) (size : SortId → ℕ) (tables : List (List ℕ)) : Type 0 where
  pub each : (f : FunId) (decl : FunDecl) → f.n < length tables → slice_get schema.functions f.n ≡ Some decl
      → IsTableOf terms number size f decl (get_or tables f.n [])

-- the database: its sizes, the tables of its functions and the elements of its constants
pub record IsModelDb (schema : SchemaParts) (terms : List Term) (number : ℕ → ℕ) (size : SortId → ℕ) (d : RawDb) : Type 0 where
  pub as_many_sizes : length d.sizes ≡ schema.sorts
  pub sizes : (s : SortId) → s.n < schema.sorts → size_of d s ≡ size s
  pub as_many_tables : length d.tables ≡ length schema.functions
  pub tables : AreTables schema terms number size d.tables
  pub as_many_constants : length d.constants ≡ length schema.constants
  pub constants : (k : ℕ) → k < length schema.constants → constant_of d k ≡ number (schema.sorts + k)

-- A model that the classes give: an element for each class of its sort, and a spare element of a sort where an image under a
-- total function is missing.
pub record IsModelBy (t : TableParts) (classes : List ℕ) (d : RawDb) (v : Values) : Type 0 where
  pub numbers : List ℕ
  pub counts : List ℕ
  pub lacking : List Bool
  pub spares : List Bool
  pub numbered : AreNumbered t classes numbers counts (length t.terms)
  pub all : length lacking ≡ length t.shape.schema.functions
  pub lack : AreLacking t numbers counts lacking
  pub spared : AreSpares t lacking spares
  pub db : IsModelDb t.shape.schema t.terms (number numbers) (sized counts spares) d
  pub values : AreModelValues t.shape t.problem.rows t.problem.params t.terms (number numbers) v
