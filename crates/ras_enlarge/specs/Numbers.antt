-- Elements for the terms of a case, listed term by term, and the sizes of the sorts with them.
use Rattle.std.specs.Prelude.{◌≡◌, ℕ, ◌<◌, ◌≤◌, List, [], length, get_or, slice_get, Some, None}
use Rattle.ras_logic.specs.declared.ids.FunId.{FunId}
use Rattle.ras_logic.specs.declared.ids.SortId.{SortId}
use Rattle.ras_logic.specs.declared.function.FunDecl.{FunDecl}
use Rattle.ras_logic.specs.declared.term.Term.{Term}
use Rattle.ras_logic.specs.declared.raw_db.RawDb.{RawDb}
use Rattle.ras_logic.specs.declared.values.Values.{Values}
use Rattle.ras_logic.specs.Databases.{size_of}
use Rattle.ras_logic.specs.Truth.{value}
use Rattle.ras_closure.specs.Numbered.{IsAt, IsSortOf, TableParts}
use Rattle.ras_closure.specs.Classes.{class}
use Rattle.ras_closure.specs.Elements.{number}
use Rattle.ras_split.specs.Standing.{CaseParts, standing}
use Rattle.ras_cover.specs.Extensions.{IsTableOver}

-- the size of a sort in a list of sizes
abbrev pub size_in : List ℕ → SortId → ℕ
size_in sizes s = get_or sizes s.n 0

-- The elements of the first n terms, and the sizes of the sorts with them: a term that something stands for has its value, and
-- of the others those of one class have one new element, and those of two classes of a sort have two.
pub record AreNumberedTo (c : CaseParts) (d : RawDb) (v : Values) (n : ℕ) (numbers sizes : List ℕ) : Type 0 where
  pub long : length numbers ≡ n
  pub sorts : length sizes ≡ c.closure.table.shape.schema.sorts
  pub grows : (s : SortId) → size_of d s ≤ size_in sizes s
  pub old : (i : ℕ) (r : Term) → i < n → standing c.closure c.terms i ≡ Some r → number numbers i ≡ value d v r
  pub same : (i : ℕ) → i < n → standing c.closure c.terms i ≡ None → number numbers i ≡ number numbers (class c.closure.classes i)
  pub new : (i : ℕ) (t : Term) (s : SortId) → i < n → IsAt c.closure.table.terms i t → IsSortOf c.closure.table t s
      → standing c.closure c.terms i ≡ None → (size_of d s < number numbers i) × (number numbers i ≤ size_in sizes s)
  pub differ : (i j : ℕ) (s t : Term) (u : SortId) → i < n → j < n → IsAt c.closure.table.terms i s → IsAt c.closure.table.terms j t
      → IsSortOf c.closure.table s u → IsSortOf c.closure.table t u → standing c.closure c.terms i ≡ None → standing c.closure c.terms j ≡ None
      → number numbers i ≡ number numbers j → class c.closure.classes i ≡ class c.closure.classes j

-- a sort without elements
pub record IsEmptyTarget (sizes : List ℕ) (s : SortId) : Type 0 where
  pub known : s.n < length sizes
  pub empty : size_in sizes s ≡ 0

-- the tables of the first n functions
pub record AreTablesOver (t : TableParts) (d : RawDb) (number : ℕ → ℕ) (size : SortId → ℕ) (n : ℕ) (tables : List (List ℕ)) : Type 0 where
  pub long : length tables ≡ n
  pub each : (f : FunId) (decl : FunDecl) → f.n < n → slice_get t.shape.schema.functions f.n ≡ Some decl
      → IsTableOver t d number size f decl (get_or d.tables f.n []) (get_or tables f.n [])
