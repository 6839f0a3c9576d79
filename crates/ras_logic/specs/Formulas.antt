-- Literals, problems and cubes that fit a shape.
use Rattle.std.specs.Prelude.{◌≡◌, not, List, [], Some, All}
use Rattle.ras_logic.specs.declared.ids.SortId.{SortId}
use Rattle.ras_logic.specs.declared.ids.RelId.{RelId}
use Rattle.ras_logic.specs.declared.term.Base.{Base}
use Rattle.ras_logic.specs.declared.term.Base.TheVariants.{Param}
use Rattle.ras_logic.specs.declared.term.Term.{Term}
use Rattle.ras_logic.specs.declared.literal.Literal.{Literal}
use Rattle.ras_logic.specs.declared.literal.Literal.TheVariants.{Equal}
use Rattle.ras_logic.specs.declared.problem.Problem.{Problem}
use Rattle.ras_logic.specs.Schemas.{IsSort}
use Rattle.ras_logic.specs.Shapes.{ShapeParts, IsRelation}
use Rattle.ras_logic.specs.Terms.{sort_of, replace_term}

-- both sides have one and the same sort
abbrev pub LiteralFits : ShapeParts → List RelId → List SortId → Literal → Type 0
LiteralFits shape rows params (Equal left right same) =
    (s : SortId) × (sort_of shape rows params left ≡ Some s) × (sort_of shape rows params right ≡ Some s)

-- every row and sort exists, and every literal fits
pub record Fits (shape : ShapeParts) (p : Problem) : Type 0 where
  pub rows : All (IsRelation shape) p.rows
  pub params : All (IsSort shape.schema.sorts) p.params
  pub literals : All (LiteralFits shape p.rows p.params) p.literals

-- the base is no data parameter
abbrev pub IsNoParam : Base → Type 0
IsNoParam (Param p) = ⊥
IsNoParam _ = Unit {0}

-- the literal names no data parameter
abbrev pub HasNoParam : Literal → Type 0
HasNoParam (Equal left right same) = IsNoParam left.base × IsNoParam right.base

-- a cube is a problem without data parameters
pub record IsCube (p : Problem) : Type 0 where
  pub none : p.params ≡ []
  pub unnamed : All HasNoParam p.literals

-- the literal that holds just where this one does not
abbrev pub negated : Literal → Literal
negated (Equal left right same) = Equal left right (not same)

-- the bases of both sides replaced
abbrev pub replace : (Base → Term) → Literal → Literal
replace f (Equal left right same) = Equal (replace_term f left) (replace_term f right) same
