use Rattle.std.proofs.Common.{All, take}
use Rattle.ras_logic.specs.Formulas.{Fits, IsCube}
use Rattle.ras_safety.proofs.safe.first_misfit.Given as goal

abbrev pub invariant-loop-number : goal.invariant-loop-number
invariant-loop-number l = record {
  fit : All (Fits l.system.shape) (take l.number l.formulas);
  cubes : All IsCube (take l.number l.formulas);
}
