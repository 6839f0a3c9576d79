-- The closure of a problem's literals: all of them are asserted, and nothing else.
use Rattle.std.specs.Prelude.{◌≡◌, ℕ, ◌<◌, ◌⊎◌, ◌↔◌, List, slice_get, Some, None, Contains}
use Rattle.ras_logic.specs.declared.literal.Literal.{Literal}
use Rattle.ras_logic.specs.declared.problem.Problem.{Problem}
use Rattle.ras_logic.specs.Shapes.{ShapeParts}
use Rattle.ras_logic.specs.Formulas.{LiteralFits}
use Rattle.ras_logic.specs.Clashes.{IsTerm}
use Rattle.ras_closure.specs.Numbered.{TableParts}
use Rattle.ras_closure.specs.Closures.{ClosureParts, IsFactOf}
use Rattle.ras_logic.specs.Literals.{left_of, right_of}

-- both sides of the literal are terms of the table, of one sort
pub record IsOfTable (t : TableParts) (l : Literal) : Type 0 where
  pub left : IsTerm t.shape.schema t.problem.literals (left_of l)
  pub right : IsTerm t.shape.schema t.problem.literals (right_of l)
  pub fits : LiteralFits t.shape t.problem.rows t.problem.params l

-- one fact more was asserted
pub record AddsLiteral (old new : ClosureParts) (fact : Literal) : Type 0 where
  pub table : new.table ≡ old.table
  pub facts : (l : Literal) → IsFactOf new l ↔ (IsFactOf old l ⊎ (l ≡ fact))

-- the literal is one of the first
abbrev pub IsAmongFirst : List Literal → ℕ → Literal → Type 0
IsAmongFirst literals n l = (k : ℕ) × (k < n) × (slice_get literals k ≡ Some l)

-- the first facts were asserted, and do not clash
pub record HasFirst (shape : ShapeParts) (facts : Problem) (n : ℕ) (c : ClosureParts) : Type 0 where
  pub shape_is : c.table.shape ≡ shape
  pub problem_is : c.table.problem ≡ facts
  pub no_clash : c.clash ≡ None
  pub asserted : (l : Literal) → IsFactOf c l ↔ IsAmongFirst facts.literals n l

-- the facts were asserted, and do not clash
pub record IsClosureOf (shape : ShapeParts) (facts : Problem) (c : ClosureParts) : Type 0 where
  pub shape_is : c.table.shape ≡ shape
  pub problem_is : c.table.problem ≡ facts
  pub no_clash : c.clash ≡ None
  pub asserted : (l : Literal) → IsFactOf c l ↔ Contains facts.literals l
