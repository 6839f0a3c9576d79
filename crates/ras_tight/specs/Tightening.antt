-- A formula whose first literals were tried.
use Rattle.std.specs.Prelude.{ℕ, ◌<◌, List, ◌++◌, length, drop, All, Contains}
use Rattle.ras_logic.specs.declared.literal.Literal.{Literal}
use Rattle.ras_logic.specs.declared.problem.Problem.{Problem}
use Rattle.ras_logic.specs.Shapes.{ShapeParts}
use Rattle.ras_core.specs.Admissible.{without}
use Rattle.ras_entail.specs.Entailment.{IsAmong}
use Rattle.ras_tight.specs.Tightened.{SomeEscapes}

-- the formula with these literals
abbrev pub with_literals : Problem → List Literal → Problem
with_literals p literals = record p { literals = literals }

-- the literals that were kept, and those that were not tried yet
abbrev pub left : List Literal → List Literal → ℕ → List Literal
left literals kept place = kept ++ drop place literals

-- what is left of the formula
abbrev pub left_of : Problem → List Literal → ℕ → Problem
left_of p kept place = with_literals p (left p.literals kept place)

-- The literals before the place were tried. What is left are literals of the formula, its states are among the list, and none
-- of the kept ones can be left out.
pub record IsTightUpTo (shape : ShapeParts) (p : Problem) (list : List Problem) (place : ℕ) (kept : List Literal) : Type 0 where
  pub own : All (Contains p.literals) (left p.literals kept place)
  pub among : IsAmong shape (left_of p kept place) list
  pub needed : (k : ℕ) → k < length kept → SomeEscapes shape (without k (left_of p kept place)) list
