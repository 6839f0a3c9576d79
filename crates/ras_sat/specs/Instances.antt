-- Instances: formulas of a list, each under rows of a premise.
use Rattle.std.specs.Prelude.{◌≡◌, false, List, slice_get, Some, Contains, ⊤}
use Rattle.ras_logic.specs.declared.ids.RelId.{RelId}
use Rattle.ras_logic.specs.declared.literal.Literal.{Literal}
use Rattle.ras_logic.specs.declared.problem.Problem.{Problem}
use Rattle.ras_logic.specs.declared.raw_db.RawDb.{RawDb}
use Rattle.ras_logic.specs.declared.values.Values.{Values}
use Rattle.ras_logic.specs.declared.tree.Node.{Node}
use Rattle.ras_logic.specs.declared.tree.Node.TheVariants.{Leaf, Split}
use Rattle.ras_logic.specs.Formulas.{replace}
use Rattle.ras_logic.specs.Truth.{holds}
use Rattle.ras_logic.specs.Refutations.{AreRowsOf, chosen_row}
use Rattle.ras_sat.specs.declared.instance.Instance.{Instance}

-- a formula of the list, and rows of the premise that are the formula's
pub record IsInstance (rows : List RelId) (formulas : List Problem) (i : Instance) : Type 0 where
  pub formula : Problem
  pub known : slice_get formulas i.formula ≡ Some formula
  pub rows_of : AreRowsOf rows formula.rows i.rows

-- some literal of the formula does not hold under these rows
pub record IsFalsified (d : RawDb) (v : Values) (formulas : List Problem) (i : Instance) : Type 0 where
  pub formula : Problem
  pub known : slice_get formulas i.formula ≡ Some formula
  pub literal : Literal
  pub among : Contains formula.literals literal
  pub fails : holds d v (replace (chosen_row i.rows) literal) ≡ false

-- where the node is a split, it is by one of the instances
abbrev pub IsByInstance : List Instance → Node → Type 0
IsByInstance instances Leaf = ⊤
IsByInstance instances (Split formula rows children) = Contains instances (record { formula = formula; rows = rows })
