-- What is to be decided, with the opposites of the literals of each instance.
use Rattle.std.specs.Prelude.{◌≡◌, ℕ, ◌<◌, ◌≤◌, List, [], length, map, get_or, slice_get, Some, All}
use Rattle.ras_logic.specs.declared.literal.Literal.{Literal}
use Rattle.ras_logic.specs.declared.problem.Problem.{Problem}
use Rattle.ras_logic.specs.Shapes.{ShapeParts}
use Rattle.ras_logic.specs.Schemas.{SchemaParts}
use Rattle.ras_logic.specs.Formulas.{LiteralFits, Fits, negated, replace}
use Rattle.ras_logic.specs.Refutations.{AreRowsOf, chosen_row}
use Rattle.ras_sat.specs.declared.instance.Instance.{Instance}
use Rattle.ras_sat.specs.declared.task.Task.{Task}

-- the negations of literals under chosen rows
abbrev pub opposites_of_literals : List ℕ → List Literal → List Literal
opposites_of_literals chosen literals = map (λ (l : Literal). negated (replace (chosen_row chosen) l)) literals

-- the opposites of the literals of an instance
pub record AreOpposites (shape : ShapeParts) (premise : Problem) (formulas : List Problem) (i : Instance) (opposites : List Literal) : Type 0 where
  pub formula : Problem
  pub known : slice_get formulas i.formula ≡ Some formula
  pub rows_of : AreRowsOf premise.rows formula.rows i.rows
  pub opposites_are : opposites ≡ opposites_of_literals i.rows formula.literals
  pub fit : All (LiteralFits shape premise.rows premise.params) opposites
  pub few : length opposites ≤ 4294967295

-- for each of the first instances the opposites of its literals
pub record AreFirstOpposites (shape : ShapeParts) (premise : Problem) (formulas : List Problem) (instances : List Instance) (all : List (List Literal)) : Type 0 where
  pub each : (k : ℕ) (i : Instance) → k < length all → slice_get instances k ≡ Some i → AreOpposites shape premise formulas i (get_or all k [])

-- the premise fits the shape, and the opposites are those of the instances
pub record IsTask (t : Task) : Type 0 where
  pub fits : Fits t.shape.now t.premise.now
  pub as_many : length t.opposites.now ≡ length t.instances.now
  pub opposites : AreFirstOpposites t.shape.now t.premise.now t.formulas.now t.instances.now t.opposites.now

abbrev pub schema_of : Task → SchemaParts
schema_of t = t.shape.now.schema

-- the opposites of the instance of that number
abbrev pub opposites_at : Task → ℕ → List Literal
opposites_at t k = get_or t.opposites.now k []
