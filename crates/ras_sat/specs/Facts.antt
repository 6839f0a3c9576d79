-- The facts of a case: a problem whose literals change.
use Rattle.std.specs.Prelude.{◌≡◌, [], ◌∷◌, ◌++◌, List}
use Rattle.ras_logic.specs.declared.literal.Literal.{Literal}
use Rattle.ras_logic.specs.declared.problem.Problem.{Problem}

-- the rows and parameters stay, and the literals are one more
pub record AddsLast (old new : Problem) (fact : Literal) : Type 0 where
  pub rows : new.rows ≡ old.rows
  pub params : new.params ≡ old.params
  pub literals : new.literals ≡ old.literals ++ fact ∷ []

-- the rows and parameters stay, and the last literal is gone
pub record DropsLast (old new : Problem) : Type 0 where
  pub rows : new.rows ≡ old.rows
  pub params : new.params ≡ old.params
  pub literals : (facts : List Literal) (last : Literal) → old.literals ≡ facts ++ last ∷ [] → new.literals ≡ facts
