-- The terms of a problem, numbered, and how each is made of an earlier one.
use Rattle.std.specs.Prelude.{◌≡◌, ℕ, ◌+◌, ◌<◌, List, [], length, slice_get, Some}
use Rattle.ras_logic.specs.declared.term.Term.{Term}
use Rattle.ras_logic.specs.declared.ids.SortId.{SortId}
use Rattle.ras_logic.specs.declared.ids.ConstId.{ConstId}
use Rattle.ras_logic.specs.declared.literal.Literal.{Literal}
use Rattle.ras_logic.specs.declared.ids.FunId.{FunId}
use Rattle.ras_logic.specs.declared.problem.Problem.{Problem}
use Rattle.ras_logic.specs.Schemas.{SchemaParts}
use Rattle.ras_logic.specs.Terms.{sort_of, constant_term, undef_term, image_term}
use Rattle.ras_logic.specs.Clashes.{IsTerm}
use Rattle.ras_logic.specs.Shapes.{ShapeParts, IsShape}
use Rattle.ras_logic.specs.SchemaFaults.{HasSchemaLimits}
use Rattle.ras_logic.specs.Formulas.{Fits}
use Rattle.ras_closure.specs.declared.link.Link.{Link}
use Rattle.ras_closure.specs.declared.link.Link.TheVariants.{Image, Base}

-- the term of that number
abbrev pub IsAt : List Term → ℕ → Term → Type 0
IsAt terms i t = slice_get terms i ≡ Some t

-- the terms of the literals, each once: first every sort's undef, then the constants, then the others
pub record AreTerms (schema : SchemaParts) (literals : List Literal) (terms : List Term) : Type 0 where
  pub known : (i : ℕ) (t : Term) → IsAt terms i t → IsTerm schema literals t
  pub complete : (t : Term) → IsTerm schema literals t → (i : ℕ) × IsAt terms i t
  pub different : (i j : ℕ) (t : Term) → IsAt terms i t → IsAt terms j t → i ≡ j
  pub undefs : (s : SortId) → s.n < schema.sorts → IsAt terms s.n (undef_term s)
  pub constants : (c : ConstId) → c.n < length schema.constants → IsAt terms (schema.sorts + c.n) (constant_term c)

-- the term i is made as the image by the function of the term `of`
abbrev pub IsImageLink : List Link → ℕ → ℕ → FunId → Type 0
IsImageLink links i of f = slice_get links i ≡ Some (Image of f)

-- for each term that it is a base, or of which other term it is the image
pub record AreLinks (schema : SchemaParts) (terms : List Term) (links : List Link) : Type 0 where
  pub as_many : length links ≡ length terms
  pub bases : (i : ℕ) (t : Term) → IsAt terms i t → slice_get links i ≡ Some Base → t.path ≡ []
  pub of_terms : (i of : ℕ) (f : FunId) → IsImageLink links i of f → of < length terms
  pub of_functions : (i of : ℕ) (f : FunId) → IsImageLink links i of f → f.n < length schema.functions
  pub images : (i of : ℕ) (f : FunId) (s : Term) → IsImageLink links i of f → IsAt terms of s → IsAt terms i (image_term s f)

-- a problem over a shape, its terms by number, and for each how it is made
pub record TableParts : Type 0 where
  pub shape : ShapeParts
  pub problem : Problem
  pub terms : List Term
  pub links : List Link

-- the shape and the problem fit each other, and the terms are those of the problem
pub record IsTable (t : TableParts) : Type 0 where
  pub shape : IsShape t.shape
  pub limits : HasSchemaLimits t.shape.schema
  pub fits : Fits t.shape t.problem
  pub terms : AreTerms t.shape.schema t.problem.literals t.terms
  pub links : AreLinks t.shape.schema t.terms t.links
  pub few : length t.terms < 4294967295

-- how many terms are undef or a constant: the first ones
abbrev pub rigid_count : TableParts → ℕ
rigid_count t = t.shape.schema.sorts + length t.shape.schema.constants

-- the sort of a term
abbrev pub IsSortOf : TableParts → Term → SortId → Type 0
IsSortOf t s sort = sort_of t.shape t.problem.rows t.problem.params s ≡ Some sort
