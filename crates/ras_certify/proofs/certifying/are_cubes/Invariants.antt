use Rattle.std.proofs.Common.{All, take}
use Rattle.ras_logic.specs.Formulas.{IsCube}
use Rattle.ras_certify.proofs.certifying.are_cubes.Given as goal

abbrev pub invariant-loop-formula : goal.invariant-loop-formula
invariant-loop-formula l = All IsCube (take l.formula-index l.formulas)
