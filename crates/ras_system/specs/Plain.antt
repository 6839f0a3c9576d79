-- Systems without relations and data parameters.
use Rattle.std.specs.Prelude.{◌≡◌, [], All}
use Rattle.ras_logic.specs.declared.problem.Problem.{Problem}
use Rattle.ras_system.specs.declared.transition.Transition.{Transition}
use Rattle.ras_system.specs.Systems.{SystemParts}

-- no row parameter, no data parameter and no bulk case
pub record IsPlainTransition (t : Transition) : Type 0 where
  pub rows : t.rows ≡ []
  pub params : t.params ≡ []
  pub bulk : t.bulk ≡ []

-- no relation, and only such transitions
pub record IsPlain (system : SystemParts) : Type 0 where
  pub relations : system.shape.relations ≡ []
  pub transitions : All IsPlainTransition system.transitions

-- the formula names no row
abbrev pub HasNoRow : Problem → Type 0
HasNoRow p = p.rows ≡ []
