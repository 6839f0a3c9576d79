-- The sorts that have one element more: an image under a total function is missing there.
use Rattle.std.specs.Prelude.{◌≡◌, ℕ, ◌+◌, ◌<◌, ◌≤◌, ◌⊎◌, Bool, true, false, List, length, get_or, slice_get, Some, MatchBool, if◌then◌else◌}
use Rattle.ras_logic.specs.declared.ids.FunId.{FunId}
use Rattle.ras_logic.specs.declared.function.FunDecl.{FunDecl}
use Rattle.ras_logic.specs.declared.ids.SortId.{SortId}
use Rattle.ras_closure.specs.Numbered.{TableParts}
use Rattle.ras_closure.specs.Elements.{number, count}
use Rattle.ras_closure.specs.Images.{HasNoImage}

-- an image by the total function is missing: some element of the source's classes has none
pub record IsLacking (t : TableParts) (numbers counts : List ℕ) (f : FunId) (decl : FunDecl) : Type 0 where
  pub total : decl.total ≡ true
  pub x : ℕ
  pub above : 0 < x
  pub within : x ≤ count counts decl.source
  pub none : HasNoImage t.terms (number numbers) f x

-- of which of the first functions an image is missing
pub record AreLacking (t : TableParts) (numbers counts : List ℕ) (lacking : List Bool) : Type 0 where
  pub each : (f : FunId) (decl : FunDecl) → f.n < length lacking → slice_get t.shape.schema.functions f.n ≡ Some decl
      → MatchBool (get_or lacking f.n false) (IsLacking t numbers counts f decl) (IsLacking t numbers counts f decl → ⊥)

-- an image by the total function is missing, of an element of a class or of the source's spare element
pub record NeedsSpare (lacking : Bool) (spares : List Bool) (decl : FunDecl) : Type 0 where
  pub total : decl.total ≡ true
  pub reason : (lacking ≡ true) ⊎ (get_or spares decl.source.n false ≡ true)

-- some function needs a spare element of the sort
pub record IsNeeded (functions : List FunDecl) (lacking spares : List Bool) (sort : ℕ) : Type 0 where
  pub f : ℕ
  pub decl : FunDecl
  pub known : slice_get functions f ≡ Some decl
  pub target : decl.target.n ≡ sort
  pub needs : NeedsSpare (get_or lacking f false) spares decl

-- no function below n needs a spare element that is not there
abbrev pub AreSpared : List FunDecl → List Bool → List Bool → ℕ → Type 0
AreSpared functions lacking spares n = (f : ℕ) (decl : FunDecl) → f < n → slice_get functions f ≡ Some decl → NeedsSpare (get_or lacking f false) spares decl
    → get_or spares decl.target.n false ≡ true

-- the sorts that have a spare element are those that need one
pub record AreSpares (t : TableParts) (lacking spares : List Bool) : Type 0 where
  pub long : length spares ≡ t.shape.schema.sorts
  pub spared : AreSpared t.shape.schema.functions lacking spares (length t.shape.schema.functions)
  pub needed : (sort : ℕ) → get_or spares sort false ≡ true → IsNeeded t.shape.schema.functions lacking spares sort

-- how many elements a sort has: those of its classes, and the spare one
abbrev pub sized : List ℕ → List Bool → SortId → ℕ
sized counts spares s = count counts s + (if get_or spares s.n false then 1 else 0)
