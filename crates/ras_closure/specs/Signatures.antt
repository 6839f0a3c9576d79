-- The table of signatures: for each function and class one image of a term of the class, so that a second is found at once.
use Rattle.std.specs.Prelude.{◌≡◌, ℕ, ◌+◌, ◌*◌, ◌<◌, List, length, get_or}
use Rattle.ras_logic.specs.declared.ids.FunId.{FunId}
use Rattle.ras_closure.specs.Numbered.{IsImageLink, TableParts}
use Rattle.ras_closure.specs.Classes.{class}
use Rattle.ras_closure.specs.Rules.{AreUndefRules}

-- a row for each function, with a place for each class: the number of the image that is recorded, if one is
pub record SignatureParts : Type 0 where
  pub functions : ℕ
  pub width : ℕ
  pub images : List ℕ

-- a row for each function of the schema, with a place for each term
pub record AreSignaturesOf (t : TableParts) (s : SignatureParts) : Type 0 where
  pub width : s.width ≡ length t.terms
  pub functions : s.functions ≡ length t.shape.schema.functions

-- what stands for the function and the class
abbrev pub signature : SignatureParts → ℕ → ℕ → ℕ
signature s f c = get_or s.images (f * s.width + c) 0

-- the term is an image by the function of a term of the class
pub record IsImageOf (t : TableParts) (classes : List ℕ) (f : FunId) (c k : ℕ) : Type 0 where
  pub of : ℕ
  pub link : IsImageLink t.links k of f
  pub argument : class classes of ≡ c

-- an image is recorded, and what was recorded before is still found
pub record RecordsImage (t : TableParts) (classes : List ℕ) (old new : SignatureParts) (f : FunId) (c k : ℕ) : Type 0 where
  pub functions : new.functions ≡ old.functions
  pub width : new.width ≡ old.width
  pub here : signature new f.n c ≡ k
  pub image : IsImageOf t classes f c k
  pub kept : (g : FunId) (d : ℕ) → d < old.width → IsImageOf t classes g d (signature old g.n d) → signature new g.n d ≡ signature old g.n d

-- the image i is in the class of the image that is found for it
pub record HasCongruentImage (t : TableParts) (classes : List ℕ) (s : SignatureParts) (i of : ℕ) (f : FunId) : Type 0 where
  pub found : IsImageOf t classes f (class classes of) (signature s f.n (class classes of))
  pub alike : class classes i ≡ class classes (signature s f.n (class classes of))
  pub undefs : AreUndefRules t classes i of f

-- each image below the number is in the class of its congruent one
abbrev pub HaveCongruentImages : TableParts → List ℕ → SignatureParts → ℕ → Type 0
HaveCongruentImages t classes s n = (i of : ℕ) (f : FunId) → i < n → IsImageLink t.links i of f → HasCongruentImage t classes s i of f

-- what was recorded before is still found, and the image i has its congruent one too
pub record RecordsImageAt (t : TableParts) (classes : List ℕ) (old new : SignatureParts) (i : ℕ) : Type 0 where
  pub here : (of : ℕ) (f : FunId) → IsImageLink t.links i of f → HasCongruentImage t classes new i of f
  pub kept : (g : FunId) (d : ℕ) → d < old.width → IsImageOf t classes g d (signature old g.n d) → signature new g.n d ≡ signature old g.n d
