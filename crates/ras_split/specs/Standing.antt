-- Terms without data parameters that stand for the terms of a closure.
use Rattle.std.specs.Prelude.{◌≡◌, ℕ, ◌<◌, ◌⊎◌, List, length, get_or, Option, Some, None}
use Rattle.ras_logic.specs.declared.ids.FunId.{FunId}
use Rattle.ras_logic.specs.declared.term.Base.{Base}
use Rattle.ras_logic.specs.declared.term.Term.{Term}
use Rattle.ras_logic.specs.declared.literal.Literal.{Literal}
use Rattle.ras_logic.specs.Schemas.{SchemaParts}
use Rattle.ras_logic.specs.Formulas.{IsNoParam}
use Rattle.ras_logic.specs.Terms.{base_term, image_term}
use Rattle.ras_logic.specs.Clashes.{IsTerm, Together}
use Rattle.ras_closure.specs.Numbered.{IsAt, IsImageLink}
use Rattle.ras_closure.specs.Classes.{class}
use Rattle.ras_closure.specs.Closures.{ClosureParts, IsFactOf}
use Rattle.ras_split.specs.Among.{IsAmong}
use Rattle.ras_split.specs.declared.standing.Gap.{Gap}

-- A term that stands for another and has no data parameter: a base that is none for itself, and the image of what stands for a
-- term for the term's image. What stands for a term stands for every term that is together with it.
pub data Stands (schema : SchemaParts) (literals : List Literal) (IsFact : Literal → Type 0) : Term → Term → Type 0 where
  a_base : (b : Base) → IsTerm schema literals (base_term b) → IsNoParam b → Stands schema literals IsFact (base_term b) (base_term b)
  an_image : (s q : Term) (f : FunId) → Stands schema literals IsFact s q → IsTerm schema literals (image_term s f)
      → Stands schema literals IsFact (image_term s f) (image_term q f)
  of_class : (s t r : Term) → Together schema literals IsFact s t → Stands schema literals IsFact s r → Stands schema literals IsFact t r

-- the term r stands for the term t of the closure
abbrev pub StandsIn : ClosureParts → Term → Term → Type 0
StandsIn c t r = Stands c.table.shape.schema c.table.problem.literals (IsFactOf c) t r

-- what stands for the term of that number: there is one for each class, or none
abbrev pub standing : ClosureParts → List (Option Term) → ℕ → Option Term
standing c terms i = get_or terms (class c.classes i) None

-- what is there for a class stands for its terms
pub record AreStanding (c : ClosureParts) (terms : List (Option Term)) : Type 0 where
  pub as_many : length terms ≡ length c.table.terms
  pub sound : (i : ℕ) (t r : Term) → IsAt c.table.terms i t → standing c terms i ≡ Some r → StandsIn c t r

-- What stands for a term by how the term is made: itself for a base that is no data parameter, and for an image the image of
-- what stands for its argument.
pub data IsOwn (c : ClosureParts) (terms : List (Option Term)) (i : ℕ) : Term → Type 0 where
  own_base : (b : Base) → IsAt c.table.terms i (base_term b) → IsNoParam b → IsOwn c terms i (base_term b)
  own_image : (of : ℕ) (f : FunId) (s q : Term) → IsImageLink c.table.links i of f → IsAt c.table.terms of s → standing c terms of ≡ Some q
      → IsOwn c terms i (image_term q f)

-- nothing stands for the term by how it is made
abbrev pub HasNoOwn : ClosureParts → List (Option Term) → ℕ → Type 0
HasNoOwn c terms i = (u : Term) → IsOwn c terms i u → ⊥

-- nothing is there for the class of a term that has its own
pub record IsGap (c : ClosureParts) (terms : List (Option Term)) (g : Gap) : Type 0 where
  pub i : ℕ
  pub within : i < length c.table.terms
  pub class_is : g.class ≡ class c.classes i
  pub none : standing c terms i ≡ None
  pub own : IsOwn c terms i g.term

-- the class of the term has one, if it can have one
abbrev pub IsFull : ClosureParts → List (Option Term) → ℕ → Type 0
IsFull c terms i = (u : Term) → IsOwn c terms i u → (r : Term) × (standing c terms i ≡ Some r)

-- each class has one that can have one, of the first n terms
abbrev pub AreFull : ClosureParts → List (Option Term) → ℕ → Type 0
AreFull c terms n = (i : ℕ) → i < n → IsFull c terms i

-- for each class one that stands for its terms, wherever there is one
pub record AreAllStanding (c : ClosureParts) (terms : List (Option Term)) : Type 0 where
  pub are : AreStanding c terms
  pub full : AreFull c terms (length c.table.terms)

-- a closure, and for each class what stands for its terms
pub record CaseParts : Type 0 where
  pub closure : ClosureParts
  pub terms : List (Option Term)

-- the gaps that the first n terms show
pub record AreGapsTo (c : ClosureParts) (terms : List (Option Term)) (n : ℕ) (gaps : List Gap) : Type 0 where
  pub each : (g : Gap) → IsAmong gaps g → IsGap c terms g
  pub full : length gaps ≡ 0 → AreFull c terms n

-- the class of the gap has something; what was there stays, and what is new is the gap's
pub record FillsGap (old : List (Option Term)) (g : Gap) (new : List (Option Term)) : Type 0 where
  pub long : length new ≡ length old
  pub kept : (k : ℕ) (r : Term) → get_or old k None ≡ Some r → get_or new k None ≡ Some r
  pub filled : (r : Term) × (get_or new g.class None ≡ Some r)
  pub only : (k : ℕ) (r : Term) → get_or new k None ≡ Some r → (get_or old k None ≡ Some r) ⊎ ((g.class ≡ k) × (g.term ≡ r))

-- the same of several gaps
pub record Fills (old : List (Option Term)) (gaps : List Gap) (new : List (Option Term)) : Type 0 where
  pub long : length new ≡ length old
  pub kept : (k : ℕ) (r : Term) → get_or old k None ≡ Some r → get_or new k None ≡ Some r
  pub filled : (g : Gap) → IsAmong gaps g → (r : Term) × (get_or new g.class None ≡ Some r)
  pub only : (k : ℕ) (r : Term) → get_or new k None ≡ Some r → (get_or old k None ≡ Some r) ⊎ ((g : Gap) × IsAmong gaps g × (g.class ≡ k) × (g.term ≡ r))

-- something stands for the term
pub record IsKept (c : ClosureParts) (t : Term) : Type 0 where
  pub by : Term
  pub stands : StandsIn c t by
