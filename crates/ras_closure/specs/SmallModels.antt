-- What a small model of a closure is.
use Rattle.std.specs.Prelude.{◌≡◌, ◌≢◌, ℕ, ◌<◌, ◌⊎◌, true, slice_get, Some}
use Rattle.ras_logic.specs.declared.ids.SortId.{SortId}
use Rattle.ras_logic.specs.declared.raw_db.RawDb.{RawDb}
use Rattle.ras_logic.specs.declared.values.Values.{Values}
use Rattle.ras_logic.specs.declared.term.Term.{Term}
use Rattle.ras_logic.specs.declared.ids.FunId.{FunId}
use Rattle.ras_logic.specs.declared.function.FunDecl.{FunDecl}
use Rattle.ras_logic.specs.Databases.{IsDatabase, IsElement, size_of}
use Rattle.ras_logic.specs.Truth.{AreValues, value}
use Rattle.ras_logic.specs.Terms.{image_term}
use Rattle.ras_closure.specs.Numbered.{IsAt, IsSortOf}
use Rattle.ras_closure.specs.Classes.{class}
use Rattle.ras_closure.specs.Closures.{ClosureParts, IsFactOf, EachHolds}

-- A database and values in which all that was asserted holds, and in which terms of one sort and of different classes have
-- different values.
pub record IsModelOf (c : ClosureParts) (d : RawDb) (v : Values) : Type 0 where
  pub database : IsDatabase c.table.shape.schema d
  pub values : AreValues c.table.shape d c.table.problem.rows c.table.problem.params v
  pub facts : EachHolds d v (IsFactOf c)
  pub apart : (i j : ℕ) (s t : Term) (sort : SortId) → IsAt c.table.terms i s → IsAt c.table.terms j t → IsSortOf c.table s sort → IsSortOf c.table t sort
      → value d v s ≡ value d v t → class c.classes i ≡ class c.classes j

-- some total function leads to the sort, and an element of its source has no image among the terms
pub record LacksImage (c : ClosureParts) (d : RawDb) (v : Values) (sort : SortId) : Type 0 where
  pub f : FunId
  pub decl : FunDecl
  pub known : slice_get c.table.shape.schema.functions f.n ≡ Some decl
  pub total : decl.total ≡ true
  pub target : decl.target ≡ sort
  pub x : ℕ
  pub above : 0 < x
  pub element : IsElement d decl.source x
  pub none : (i k : ℕ) (t : Term) → IsAt c.table.terms i t → IsAt c.table.terms k (image_term t f) → value d v t ≢ x

-- each element but undef is the value of a term of its sort, or is the last one, and there for a missing image
pub record IsSmallFor (c : ClosureParts) (d : RawDb) (v : Values) : Type 0 where
  pub each : (sort : SortId) (x : ℕ) → sort.n < c.table.shape.schema.sorts → 0 < x → IsElement d sort x
      → ((i : ℕ) × (t : Term) × IsAt c.table.terms i t × IsSortOf c.table t sort × (value d v t ≡ x)) ⊎ ((x ≡ size_of d sort) × LacksImage c d v sort)
