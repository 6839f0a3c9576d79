-- The answers of entailment.
use Rattle.std.specs.Prelude.{◌↔◌, List, ⊤}
use Rattle.ras_logic.specs.declared.problem.Problem.{Problem}
use Rattle.ras_logic.specs.declared.tree.Tree.{Tree}
use Rattle.ras_logic.specs.Shapes.{ShapeParts}
use Rattle.ras_logic.specs.Refutations.{Closes}
use Rattle.ras_steps.specs.declared.witness.Witness.{Witness}
use Rattle.ras_entail.specs.declared.entail.Entail.{Entail}
use Rattle.ras_entail.specs.declared.entail.Entail.TheVariants as entail
use Rattle.ras_entail.specs.Entailment.{IsAmong, Escapes}

abbrev pub IfYes : Entail → (Tree → Type 0) → Type 0
IfYes (entail.Yes tree) P = P tree
IfYes (entail.Escape witness) P = ⊤

abbrev pub IfEscape : Entail → (Witness → Type 0) → Type 0
IfEscape (entail.Yes tree) P = ⊤
IfEscape (entail.Escape witness) P = P witness

abbrev pub IsYes : Entail → Type 0
IsYes (entail.Yes tree) = ⊤
IsYes (entail.Escape witness) = ⊥

-- the premise is among the list, and a tree closes; or it is not, and a state escapes
pub record IsEntailment (shape : ShapeParts) (premise : Problem) (list : List Problem) (e : Entail) : Type 0 where
  pub yes : IfYes e (λ t. Closes shape.schema premise list t.nodes)
  pub escape : IfEscape e (Escapes shape premise list)
  pub exact : IsYes e ↔ IsAmong shape premise list
