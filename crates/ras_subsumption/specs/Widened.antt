-- A problem with the terms of another cube over its own rows.
use Rattle.std.specs.Prelude.{◌≡◌, ℕ, ◌<◌, ◌⊎◌, true, List, [], ◌++◌, length, Some, All, Contains}
use Rattle.ras_logic.specs.declared.ids.SortId.{SortId}
use Rattle.ras_logic.specs.declared.ids.RelId.{RelId}
use Rattle.ras_logic.specs.declared.term.Base.{Base}
use Rattle.ras_logic.specs.declared.term.Base.TheVariants.{Cell}
use Rattle.ras_logic.specs.declared.term.Term.{Term}
use Rattle.ras_logic.specs.declared.literal.Literal.{Literal}
use Rattle.ras_logic.specs.declared.literal.Literal.TheVariants.{Equal}
use Rattle.ras_logic.specs.declared.problem.Problem.{Problem}
use Rattle.ras_logic.specs.Shapes.{ShapeParts}
use Rattle.ras_logic.specs.Terms.{base_term, sort_of, replace_term}
use Rattle.ras_logic.specs.Formulas.{LiteralFits}
use Rattle.ras_logic.specs.Literals.{left_of, right_of}

-- this row in place of the row that a base names
abbrev pub row_base : ℕ → Base → Term
row_base row (Cell other column) = base_term (Cell row column)
row_base row b = base_term b

-- the term over this row, in place of the row that it names
abbrev pub over_row : ℕ → Term → Term
over_row row t = replace_term (row_base row) t

-- that a term is itself
abbrev pub itself : Term → Literal
itself t = Equal t t true

-- the literal says of a term that it is itself, and fits over these rows
pub record IsTrivial (shape : ShapeParts) (rows : List RelId) (l : Literal) : Type 0 where
  pub term : Term
  pub says : l ≡ itself term
  pub fits : LiteralFits shape rows [] l

-- the term over this row is among the literals' terms, if it has a sort
abbrev pub HasOver : ShapeParts → List RelId → List Literal → Term → ℕ → Type 0
HasOver shape rows literals t row = (s : SortId) → sort_of shape rows [] (over_row row t) ≡ Some s → Contains literals (itself (over_row row t))

-- the term over row 0, and over each of the rows, is among the literals' terms
abbrev pub HasOverRows : ShapeParts → List RelId → List Literal → Term → Type 0
HasOverRows shape rows literals t = (row : ℕ) → (row ≡ 0) ⊎ (row < length rows) → HasOver shape rows literals t row

-- the same of both sides of a literal
pub record HasSidesOver (shape : ShapeParts) (rows : List RelId) (literals : List Literal) (l : Literal) : Type 0 where
  pub left : HasOverRows shape rows literals (left_of l)
  pub right : HasOverRows shape rows literals (right_of l)

-- more trivial literals
pub record AddsTrivial (shape : ShapeParts) (rows : List RelId) (old new : List Literal) : Type 0 where
  pub kept : (l : Literal) → Contains old l → Contains new l
  pub trivial : All (IsTrivial shape rows) old → All (IsTrivial shape rows) new

-- the cube, with trivial literals about the terms of the other one over the cube's rows
pub record IsWidened (shape : ShapeParts) (cube other p : Problem) : Type 0 where
  pub rows_are : p.rows ≡ cube.rows
  pub none : p.params ≡ []
  pub more : List Literal
  pub literals_are : p.literals ≡ cube.literals ++ more
  pub trivial : All (IsTrivial shape cube.rows) more
  pub sides : All (HasSidesOver shape cube.rows more) other.literals
