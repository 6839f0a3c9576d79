-- When an evidence of safety is good.
use Rattle.std.specs.Prelude.{List, All}
use Rattle.std.specs.List.{AllZip}
use Rattle.ras_logic.specs.declared.problem.Problem.{Problem}
use Rattle.ras_logic.specs.declared.tree.Tree.{Tree}
use Rattle.ras_logic.specs.Formulas.{Fits, IsCube}
use Rattle.ras_logic.specs.Refutations.{Closes}
use Rattle.ras_system.specs.Systems.{SystemParts}
use Rattle.ras_system.specs.Obligations.{Obligation, obligations}

-- the tree closes the obligation
abbrev pub ClosesObligation : SystemParts → Obligation → Tree → Type 0
ClosesObligation system o t = Closes system.shape.schema o.premise o.formulas t.nodes

-- each formula is a cube that fits the shape, and there is for each obligation, in order, a tree that closes it
pub record IsGoodSafe (system : SystemParts) (formulas : List Problem) (trees : List Tree) : Type 0 where
  pub fit : All (Fits system.shape) formulas
  pub cubes : All IsCube formulas
  pub closed : AllZip (ClosesObligation system) (obligations system formulas) trees
