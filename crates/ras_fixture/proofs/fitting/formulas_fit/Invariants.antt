use Rattle.std.proofs.Common.{All, take}
use Rattle.ras_logic.specs.Formulas.{Fits}
use Rattle.ras_fixture.proofs.fitting.formulas_fit.Given as goal

abbrev pub invariant-loop-formula : goal.invariant-loop-formula
invariant-loop-formula l = All (Fits l.shape) (take l.formula-index l.formulas)
