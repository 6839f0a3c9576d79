-- When one cube holds wherever another does, under a row map.
use Rattle.std.specs.Prelude.{ℕ, List, IsTrue, All}
use Rattle.ras_logic.specs.declared.raw_db.RawDb.{RawDb}
use Rattle.ras_logic.specs.declared.values.Values.{Values}
use Rattle.ras_logic.specs.declared.literal.Literal.{Literal}
use Rattle.ras_logic.specs.declared.problem.Problem.{Problem}
use Rattle.ras_logic.specs.Shapes.{ShapeParts}
use Rattle.ras_logic.specs.Databases.{IsDatabase}
use Rattle.ras_logic.specs.Formulas.{replace}
use Rattle.ras_logic.specs.Truth.{Satisfies, holds}
use Rattle.ras_logic.specs.Refutations.{AreRowsOf, chosen_row}
use Rattle.ras_steps.specs.Choosing.{ComesBefore}

-- the literal holds wherever the problem does
abbrev pub HoldsWherever : ShapeParts → Problem → Literal → Type 0
HoldsWherever shape p l = (d : RawDb) (v : Values) → IsDatabase shape.schema d → Satisfies shape d v p → IsTrue (holds d v l)

-- each of these literals under a row map holds wherever the problem does
abbrev pub AllHoldUnder : ShapeParts → Problem → List ℕ → List Literal → Type 0
AllHoldUnder shape p map literals = All (λ (l : Literal). HoldsWherever shape p (replace (chosen_row map) l)) literals

-- a row map under which every literal of the other cube holds wherever this one does
pub record EntailsBy (shape : ShapeParts) (cube other : Problem) (map : List ℕ) : Type 0 where
  pub rows_of : AreRowsOf cube.rows other.rows map
  pub literals : AllHoldUnder shape cube map other.literals

-- the first such row map, in lexicographic order
pub record IsFirstMap (shape : ShapeParts) (cube other : Problem) (map : List ℕ) : Type 0 where
  pub entails : EntailsBy shape cube other map
  pub first : (earlier : List ℕ) → EntailsBy shape cube other earlier → ComesBefore earlier map → ⊥

-- there is no such row map
abbrev pub NoneEntails : ShapeParts → Problem → Problem → Type 0
NoneEntails shape cube other = (map : List ℕ) → ¬ EntailsBy shape cube other map
