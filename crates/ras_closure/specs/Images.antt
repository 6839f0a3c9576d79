-- Which elements have an image by a function among the terms.
use Rattle.std.specs.Prelude.{◌≡◌, ◌≢◌, ℕ, ◌+◌, ◌<◌, List, length, get_or, Option, None, MatchOption}
use Rattle.ras_logic.specs.declared.ids.FunId.{FunId}
use Rattle.ras_logic.specs.declared.term.Term.{Term}
use Rattle.ras_logic.specs.Terms.{image_term}
use Rattle.ras_closure.specs.Numbered.{IsAt, IsImageLink, TableParts}
use Rattle.ras_closure.specs.Elements.{number}

-- no term with that element has an image by the function among the terms
abbrev pub HasNoImage : List Term → (ℕ → ℕ) → FunId → ℕ → Type 0
HasNoImage terms number f x = (i k : ℕ) (t : Term) → IsAt terms i t → IsAt terms k (image_term t f) → number i ≢ x

-- the term k is the image by the function of a term with that element
pub record IsImageAt (t : TableParts) (number : ℕ → ℕ) (f : FunId) (x k : ℕ) : Type 0 where
  pub of : ℕ
  pub link : IsImageLink t.links k of f
  pub argument : number of ≡ x

-- the element y is that of an image by the function of a term with the element x
pub record IsFoundImage (t : TableParts) (numbers : List ℕ) (f : FunId) (x y : ℕ) : Type 0 where
  pub k : ℕ
  pub at : IsImageAt t (number numbers) f x k
  pub element : y ≡ number numbers k

-- the images of the elements from 1 on, where a term below n gives one
pub record AreImages (t : TableParts) (numbers : List ℕ) (f : FunId) (n : ℕ) (images : List (Option ℕ)) : Type 0 where
  pub each : (x : ℕ) → x < length images → MatchOption (get_or images x None) ((k : ℕ) → k < n → IsImageAt t (number numbers) f (x + 1) k → ⊥) (IsFoundImage t numbers f (x + 1))
