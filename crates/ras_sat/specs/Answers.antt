-- What the answers of the solver say.
use Rattle.std.specs.Prelude.{◌≡◌, List, [], ◌∷◌, All, ⊤}
use Rattle.ras_logic.specs.declared.tree.Node.TheVariants.{Leaf}
use Rattle.ras_logic.specs.declared.problem.Problem.{Problem}
use Rattle.ras_logic.specs.declared.raw_db.RawDb.{RawDb}
use Rattle.ras_logic.specs.declared.values.Values.{Values}
use Rattle.ras_logic.specs.declared.tree.Tree.{Tree}
use Rattle.ras_logic.specs.Shapes.{ShapeParts}
use Rattle.ras_logic.specs.Databases.{IsDatabase}
use Rattle.ras_logic.specs.Truth.{Satisfies}
use Rattle.ras_closure.specs.declared.model.Model.{Model}
use Rattle.ras_sat.specs.declared.instance.Instance.{Instance}
use Rattle.ras_sat.specs.declared.decision.Decision.{Decision}
use Rattle.ras_sat.specs.declared.decision.Decision.TheVariants as decision
use Rattle.ras_sat.specs.Instances.{IsFalsified}

-- where the answer is a tree
abbrev pub IfRefuted : Decision → (Tree → Type 0) → Type 0
IfRefuted (decision.Refuted tree) P = P tree
IfRefuted (decision.Model model) P = ⊤

-- where the answer is a model
abbrev pub IfModel : Decision → (Model → Type 0) → Type 0
IfModel (decision.Refuted tree) P = ⊤
IfModel (decision.Model model) P = P model

-- a database and values that satisfy the premise and falsify each instance
pub record IsEscape (shape : ShapeParts) (premise : Problem) (formulas : List Problem) (instances : List Instance) (d : RawDb) (v : Values) : Type 0 where
  pub database : IsDatabase shape.schema d
  pub satisfies : Satisfies shape d v premise
  pub falsified : All (IsFalsified d v formulas) instances

-- the answer is a tree of one node, a leaf
abbrev pub IsLoneLeaf : Decision → Type 0
IsLoneLeaf (decision.Refuted tree) = tree.nodes ≡ Leaf ∷ []
IsLoneLeaf (decision.Model model) = ⊥
