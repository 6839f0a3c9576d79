-- When a rule for functions asks for more: two terms of different classes that it puts together, and classes of which none asks for more.
use Rattle.std.specs.Prelude.{◌≡◌, ◌≢◌, ℕ, ◌<◌, true, List, length, slice_get, Some}
use Rattle.ras_logic.specs.declared.ids.FunId.{FunId}
use Rattle.ras_logic.specs.declared.function.FunDecl.{FunDecl}
use Rattle.ras_closure.specs.Numbered.{IsImageLink, TableParts}
use Rattle.ras_closure.specs.Classes.{class}

-- two terms that a rule puts together
pub data Forced (t : TableParts) (classes : List ℕ) : ℕ → ℕ → Type 0 where
  by_images : (i j of of2 : ℕ) (f : FunId) → IsImageLink t.links i of f → IsImageLink t.links j of2 f → class classes of ≡ class classes of2 → Forced t classes i j
  by_undef : (i of : ℕ) (f : FunId) (d : FunDecl) → IsImageLink t.links i of f → slice_get t.shape.schema.functions f.n ≡ Some d
      → class classes of ≡ class classes d.source.n → Forced t classes i d.target.n
  by_total : (i of : ℕ) (f : FunId) (d : FunDecl) → IsImageLink t.links i of f → slice_get t.shape.schema.functions f.n ≡ Some d → d.total ≡ true
      → class classes i ≡ class classes d.target.n → Forced t classes of d.source.n

-- two terms of different classes that a rule puts together
pub record IsPendingPair (t : TableParts) (classes : List ℕ) (i j : ℕ) : Type 0 where
  pub forced : Forced t classes i j
  pub differ : class classes i ≢ class classes j
  pub left : i < length t.terms
  pub right : j < length t.terms

-- the two rules for undef ask for nothing more at the image i
pub record AreUndefRules (t : TableParts) (classes : List ℕ) (i of : ℕ) (f : FunId) : Type 0 where
  pub undef : (d : FunDecl) → slice_get t.shape.schema.functions f.n ≡ Some d → class classes of ≡ class classes d.source.n → class classes i ≡ class classes d.target.n
  pub total : (d : FunDecl) → slice_get t.shape.schema.functions f.n ≡ Some d → d.total ≡ true → class classes i ≡ class classes d.target.n → class classes of ≡ class classes d.source.n

-- no rule asks for more
pub record IsSaturated (t : TableParts) (classes : List ℕ) : Type 0 where
  pub images : (i j of of2 : ℕ) (f : FunId) → IsImageLink t.links i of f → IsImageLink t.links j of2 f → class classes of ≡ class classes of2 → class classes i ≡ class classes j
  pub undefs : (i of : ℕ) (f : FunId) → IsImageLink t.links i of f → AreUndefRules t classes i of f
