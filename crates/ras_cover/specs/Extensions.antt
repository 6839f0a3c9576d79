-- A larger database in which terms have given values: old elements for some, new ones for the others.
use Rattle.std.specs.Prelude.{◌≡◌, ℕ, ◌+◌, ◌<◌, ◌≤◌, true, List, [], length, get_or, slice_get, Option, Some, None}
use Rattle.ras_logic.specs.declared.ids.FunId.{FunId}
use Rattle.ras_logic.specs.declared.ids.SortId.{SortId}
use Rattle.ras_logic.specs.declared.function.FunDecl.{FunDecl}
use Rattle.ras_logic.specs.declared.term.Base.{Base}
use Rattle.ras_logic.specs.declared.term.Term.{Term}
use Rattle.ras_logic.specs.declared.raw_db.RawDb.{RawDb}
use Rattle.ras_logic.specs.declared.values.Values.{Values}
use Rattle.ras_logic.specs.Formulas.{IsNoParam}
use Rattle.ras_logic.specs.Terms.{base_term, image_term}
use Rattle.ras_logic.specs.Databases.{image, size_of}
use Rattle.ras_logic.specs.Truth.{value_of_base, value}
use Rattle.ras_closure.specs.Numbered.{IsAt, IsSortOf, TableParts}
use Rattle.ras_closure.specs.Models.{IsImage}
use Rattle.ras_closure.specs.Classes.{class}
use Rattle.ras_closure.specs.Closures.{ClosureParts}
use Rattle.ras_split.specs.Standing.{standing}

-- the target of a total function has an element where its source has one
abbrev pub AreFilled : TableParts → (SortId → ℕ) → Type 0
AreFilled t size = (f : FunId) (decl : FunDecl) → slice_get t.shape.schema.functions f.n ≡ Some decl → decl.total ≡ true
    → 0 < size decl.source → 0 < size decl.target

-- Elements for the terms of a case: the value of what stands for the term, or else a new element, one for each class of a sort.
pub record AreNumbersFor (c : ClosureParts) (terms : List (Option Term)) (d : RawDb) (v : Values) (number : ℕ → ℕ) (size : SortId → ℕ) : Type 0 where
  pub old : (i : ℕ) (t r : Term) → IsAt c.table.terms i t → standing c terms i ≡ Some r → number i ≡ value d v r
  pub new : (i : ℕ) (t : Term) (s : SortId) → IsAt c.table.terms i t → IsSortOf c.table t s → standing c terms i ≡ None → size_of d s < number i
  pub within : (i : ℕ) (t : Term) (s : SortId) → IsAt c.table.terms i t → IsSortOf c.table t s → standing c terms i ≡ None → number i ≤ size s
  pub same : (i j : ℕ) (s t : Term) (u : SortId) → IsAt c.table.terms i s → IsAt c.table.terms j t → IsSortOf c.table s u → IsSortOf c.table t u
      → standing c terms i ≡ None → class c.classes i ≡ class c.classes j → number i ≡ number j
  pub differ : (i j : ℕ) (s t : Term) (u : SortId) → IsAt c.table.terms i s → IsAt c.table.terms j t → IsSortOf c.table s u → IsSortOf c.table t u
      → standing c terms i ≡ None → standing c terms j ≡ None → number i ≡ number j → class c.classes i ≡ class c.classes j
  pub grows : (s : SortId) → s.n < c.table.shape.schema.sorts → size_of d s ≤ size s
  pub filled : AreFilled c.table size

-- Elements for terms over a database. A base that is no data parameter has its value. Where the element is one of the
-- database, so is the image, and is the image there. New elements that are one have images that are one, and under a total
-- function these are not undef. No sort is smaller, and where a total function has an element to map, it has one to map it to.
pub record AreNumbersOver (t : TableParts) (d : RawDb) (v : Values) (number : ℕ → ℕ) (size : SortId → ℕ) : Type 0 where
  pub base : (i : ℕ) (b : Base) → IsAt t.terms i (base_term b) → IsNoParam b → number i ≡ value_of_base d v b
  pub known : (i k : ℕ) (s : Term) (f : FunId) (decl : FunDecl) → IsAt t.terms i s → IsAt t.terms k (image_term s f)
      → slice_get t.shape.schema.functions f.n ≡ Some decl → number i ≤ size_of d decl.source → number k ≡ image d f.n (number i)
  pub fresh : (i k j l : ℕ) (s u : Term) (f : FunId) (decl : FunDecl) → IsAt t.terms i s → IsAt t.terms k (image_term s f) → IsAt t.terms j u → IsAt t.terms l (image_term u f)
      → slice_get t.shape.schema.functions f.n ≡ Some decl → number i ≡ number j → size_of d decl.source < number i → number k ≡ number l
  pub total : (i k : ℕ) (s : Term) (f : FunId) (decl : FunDecl) → IsAt t.terms i s → IsAt t.terms k (image_term s f)
      → slice_get t.shape.schema.functions f.n ≡ Some decl → decl.total ≡ true → size_of d decl.source < number i → 0 < number k
  pub within : (i : ℕ) (s : Term) (sort : SortId) → IsAt t.terms i s → IsSortOf t s sort → number i ≤ size sort
  pub grows : (sort : SortId) → sort.n < t.shape.schema.sorts → size_of d sort ≤ size sort
  pub filled : AreFilled t size

-- the old table, and the images of the new elements
pub record IsTableOver (t : TableParts) (d : RawDb) (number : ℕ → ℕ) (size : SortId → ℕ) (f : FunId) (decl : FunDecl) (smaller larger : List ℕ) : Type 0 where
  pub long : length larger ≡ size decl.source
  pub old : (k : ℕ) → k < size_of d decl.source → get_or larger k 0 ≡ get_or smaller k 0
  pub images : (k : ℕ) → size_of d decl.source ≤ k → k < length larger → IsImage t.terms number size f decl (k + 1) (get_or larger k 0)

-- the larger database: more elements, the same constants, and the old tables with the images of the new elements
pub record IsDbOver (t : TableParts) (d : RawDb) (number : ℕ → ℕ) (size : SortId → ℕ) (e : RawDb) : Type 0 where
  pub as_many_sizes : length e.sizes ≡ t.shape.schema.sorts
  pub sizes : (s : SortId) → s.n < t.shape.schema.sorts → size_of e s ≡ size s
  pub as_many_tables : length e.tables ≡ length t.shape.schema.functions
  pub each_table : (f : FunId) (decl : FunDecl) → slice_get t.shape.schema.functions f.n ≡ Some decl
      → IsTableOver t d number size f decl (get_or d.tables f.n []) (get_or e.tables f.n [])
  pub constants : e.constants ≡ d.constants
