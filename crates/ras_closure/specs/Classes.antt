-- Classes of terms: for each term a number that terms of one class share.
use Rattle.std.specs.Prelude.{◌≡◌, ℕ, ◌<◌, true, List, length, map, get_or, slice_get, nat_eq, Some, if◌then◌else◌}
use Rattle.ras_logic.specs.declared.ids.FunId.{FunId}
use Rattle.ras_logic.specs.declared.function.FunDecl.{FunDecl}
use Rattle.ras_logic.specs.declared.term.Term.{Term}
use Rattle.ras_logic.specs.declared.literal.Literal.{Literal}
use Rattle.ras_logic.specs.declared.literal.Literal.TheVariants.{Equal}
use Rattle.ras_logic.specs.Schemas.{SchemaParts}
use Rattle.ras_logic.specs.Terms.{image_term}
use Rattle.ras_logic.specs.Clashes.{Together}
use Rattle.ras_closure.specs.Numbered.{IsAt}

-- the class number of the term of that number
abbrev pub class : List ℕ → ℕ → ℕ
class classes i = get_or classes i 0

-- the classes have the facts and are closed under the rules for functions
pub record AreClosed (schema : SchemaParts) (IsFact : Literal → Type 0) (terms : List Term) (classes : List ℕ) : Type 0 where
  pub stated : (i j : ℕ) (s t : Term) → IsAt terms i s → IsAt terms j t → IsFact (Equal s t true) → class classes i ≡ class classes j
  pub same_images : (i j k l : ℕ) (s t : Term) (f : FunId) → IsAt terms i s → IsAt terms j t → IsAt terms k (image_term s f) → IsAt terms l (image_term t f)
      → class classes i ≡ class classes j → class classes k ≡ class classes l
  pub image_of_undef : (i k : ℕ) (t : Term) (f : FunId) (d : FunDecl) → slice_get schema.functions f.n ≡ Some d → IsAt terms i t → IsAt terms k (image_term t f)
      → class classes i ≡ class classes d.source.n → class classes k ≡ class classes d.target.n
  pub only_undef : (i k : ℕ) (t : Term) (f : FunId) (d : FunDecl) → slice_get schema.functions f.n ≡ Some d → d.total ≡ true → IsAt terms i t → IsAt terms k (image_term t f)
      → class classes k ≡ class classes d.target.n → class classes i ≡ class classes d.source.n

-- terms of one class are together
abbrev pub AreSound : SchemaParts → List Literal → (Literal → Type 0) → List Term → List ℕ → Type 0
AreSound schema literals IsFact terms classes =
    (i j : ℕ) (s t : Term) → IsAt terms i s → IsAt terms j t → class classes i ≡ class classes j → Together schema literals IsFact s t

-- what was in one class still is
abbrev pub Coarsens : List ℕ → List ℕ → Type 0
Coarsens old new = (i j : ℕ) → i < length old → j < length old → class old i ≡ class old j → class new i ≡ class new j

-- one class number replaced by another
abbrev pub relabelled : ℕ → ℕ → List ℕ → List ℕ
relabelled from to classes = map (λ c. if nat_eq c from then to else c) classes
