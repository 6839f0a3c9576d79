-- The tables of the larger database, image by image.
use Rattle.std.proofs.Common.{◌≡◌, ◌≢◌, ℕ, zero, suc, ◌+◌, ◌<◌, ◌≤◌, Bool, true, false, List, [], ◌∷◌, ◌++◌, length, get_or, cond, refl, sym, ◌∙◌, ap, subst, arith, ◌⊎◌, inl, inr, ⊎_elim, length-append}
use Rattle.std.specs.Prelude.{slice_get, Option, Some, None, Result, Ok, Err, IfOk, MatchOption, IsTrue}
use Rattle.std.proofs.lemmas.Option.{slice_get_within}
use Rattle.std.proofs.lemmas.List.{get_or_append_left, get_or_push}
use Rattle.ras_logic.specs.declared.ids.SortId.{SortId}
use Rattle.ras_logic.specs.declared.ids.FunId.{FunId}
use Rattle.ras_logic.specs.declared.function.FunDecl.{FunDecl}
use Rattle.ras_logic.specs.declared.raw_db.RawDb.{RawDb}
use Rattle.ras_logic.specs.declared.values.Values.{Values}
use Rattle.ras_logic.specs.declared.problem.Problem.{Problem}
use Rattle.ras_logic.specs.declared.term.Term.{Term}
use Rattle.ras_logic.specs.declared.literal.Literal.{Literal}
use Rattle.ras_logic.specs.Shapes.{ShapeParts}
use Rattle.ras_logic.specs.Databases.{IsDatabase, Extends, size_of}
use Rattle.ras_logic.specs.Truth.{AreValues, AllHold, value, Satisfies}
use Rattle.ras_logic.specs.Schemas.{HasSorts}
use Rattle.ras_closure.specs.declared.link.Link.TheVariants.{Image}
use Rattle.ras_closure.specs.Numbered.{IsAt, IsTable, IsSortOf, IsImageLink, TableParts}
use Rattle.ras_logic.proofs.Elements.{from_known}
use Rattle.ras_closure.specs.Classes.{class}
use Rattle.ras_closure.specs.Elements.{number}
use Rattle.ras_closure.specs.Images.{IsImageAt}
use Rattle.ras_closure.specs.Models.{IsImage}
use Rattle.ras_closure.specs.Closures.{ClosureParts, IsClosure, IsFactOf}
use Rattle.ras_closure.proofs.Cases.{some_same, below_or_same, below_or}
use Rattle.ras_closure.proofs.FoundImages.{image-found, image-none}
use Rattle.ras_split.specs.Standing.{standing}
use Rattle.ras_cover.specs.Extensions.{IsTableOver}
use Rattle.ras_enlarge.specs.Numbers.{AreTablesOver}

pub tables-more : (t : TableParts) (d : RawDb) (num : ℕ → ℕ) (size : SortId → ℕ) (n : ℕ) (tables : List (List ℕ)) (table : List ℕ) → AreTablesOver t d num size n tables
    → ((decl : FunDecl) → slice_get t.shape.schema.functions n ≡ Some decl → IsTableOver t d num size (record { n = n }) decl (get_or d.tables n []) table)
    → AreTablesOver t d num size (n + 1) (tables ++ table ∷ [])
tables-more t d num size n tables table are is = record {
  long = length-append tables (table ∷ []) ∙ ap (λ (m : ℕ). m + 1) are.long;
  each = λ f decl lt known.
      ⊎_elim
      (λ (below : f.n < n).
      subst (IsTableOver t d num size f decl (get_or d.tables f.n [])) (sym (get_or_append_left tables (table ∷ []) [] f.n (omega (arith, below, are.long)))) (are.each f decl below known))
      (λ (here : f.n ≡ n).
      subst (IsTableOver t d num size f decl (get_or d.tables f.n [])) (sym (get_or_push tables table [] f.n (are.long ∙ sym here)))
      (subst (λ (m : ℕ). IsTableOver t d num size (record { n = m }) decl (get_or d.tables m []) table) (sym here)
      (is decl (subst (λ (m : ℕ). slice_get t.shape.schema.functions m ≡ Some decl) here known)))) (below_or_same f.n n lt);
}

-- the images so far
pub record AreImagesOver (t : TableParts) (d : RawDb) (num : ℕ → ℕ) (size : SortId → ℕ) (f : FunId) (decl : FunDecl) (smaller : List ℕ) (n : ℕ) (larger : List ℕ) : Type 0 where
  pub long : length larger ≡ n
  pub old : (k : ℕ) → k < size_of d decl.source → get_or larger k 0 ≡ get_or smaller k 0
  pub images : (k : ℕ) → size_of d decl.source ≤ k → k < n → IsImage t.terms num size f decl (k + 1) (get_or larger k 0)

module _ (t : TableParts) (d : RawDb) (num : ℕ → ℕ) (size : SortId → ℕ) (f : FunId) (decl : FunDecl) (smaller : List ℕ) where
  pub images-start : length smaller ≡ size_of d decl.source → AreImagesOver t d num size f decl smaller (length smaller) smaller
  images-start long = record { long = refl; old = λ k lt. refl; images = λ k le lt. absurd (omega (arith, le, lt, long)) }

  pub images-more : (n x : ℕ) (larger : List ℕ) → size_of d decl.source ≤ n → AreImagesOver t d num size f decl smaller n larger → IsImage t.terms num size f decl (n + 1) x
      → AreImagesOver t d num size f decl smaller (n + 1) (larger ++ x ∷ [])
  images-more n x larger from are is = record {
    long = length-append larger (x ∷ []) ∙ ap (λ (m : ℕ). m + 1) are.long;
    old = λ k lt. get_or_append_left larger (x ∷ []) 0 k (omega (arith, lt, from, are.long)) ∙ are.old k lt;
    images = λ k le lt.
        ⊎_elim
        (λ (below : k < n). subst (IsImage t.terms num size f decl (k + 1)) (sym (get_or_append_left larger (x ∷ []) 0 k (omega (arith, below, are.long)))) (are.images k le below))
        (λ (here : k ≡ n).
        subst (IsImage t.terms num size f decl (k + 1)) (sym (get_or_push larger x 0 k (are.long ∙ sym here))) (subst (λ (m : ℕ). IsImage t.terms num size f decl (m + 1) x) (sym here) is)) (below_or_same k n lt);
  }

  pub images-end : (n : ℕ) (larger : List ℕ) → n ≡ size decl.source → AreImagesOver t d num size f decl smaller n larger → IsTableOver t d num size f decl smaller larger
  images-end n larger e are = record { long = are.long ∙ e; old = are.old; images = λ k le lt. are.images k le (omega (arith, lt, are.long)) }

-- the image of a new element that no term has
pub image-missing : (t : TableParts) (table : IsTable t) (num : ℕ → ℕ) (size : SortId → ℕ) (f : FunId) (x y : ℕ) (known : FunDecl) → slice_get t.shape.schema.functions f.n ≡ Some known
    → ((k : ℕ) → k < length t.terms → IsImageAt t num f x k → ⊥) → y ≡ cond known.total (size known.target) 0
    → (decl : FunDecl) → slice_get t.shape.schema.functions f.n ≡ Some decl → IsImage t.terms num size f decl x y
image-missing t table num size f x y known at none is decl at_decl =
    subst (λ (q : FunDecl). IsImage t.terms num size f q x y) (some_same (sym at ∙ at_decl)) (inr (image-none t table num f x none, is))

-- the sorts of a function exist
pub function-sorts : (t : TableParts) → IsTable t → (f : ℕ) (decl : FunDecl) → slice_get t.shape.schema.functions f ≡ Some decl → HasSorts t.shape.schema.sorts decl
function-sorts t table f decl known = from_known (HasSorts t.shape.schema.sorts) t.shape.schema.functions table.shape.schema.functions f decl known

-- a term is the image of one other term
pub image-elsewhere : (t : TableParts) (num : ℕ → ℕ) (f : FunId) (x k of : ℕ) → IsImageLink t.links k of f → num of ≢ x → IsImageAt t num f x k → ⊥
image-elsewhere t num f x k of link differ at = differ (ap num (same at.of (sym link ∙ at.link)) ∙ at.argument)
  where
    same : (m : ℕ) → Some (Image of f) ≡ Some (Image m f) → of ≡ m
    same m e = cc

pub none-more : (P : ℕ → Type 0) (n : ℕ) → ((j : ℕ) → j < n → P j → ⊥) → (P n → ⊥) → (j : ℕ) → j < n + 1 → P j → ⊥
none-more P n before here j lt p = ⊎_elim (λ (below : j < n). before j below p) (λ (e : j ≡ n). here (subst P e p)) (below_or_same j n lt)
