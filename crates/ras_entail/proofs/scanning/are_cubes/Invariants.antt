use Rattle.std.proofs.Common.{take}
use Rattle.std.specs.Prelude.{All}
use Rattle.ras_logic.specs.Formulas.{IsCube}
use Rattle.ras_entail.proofs.scanning.are_cubes.Given as goal

abbrev pub invariant-loop-cube : goal.invariant-loop-cube
invariant-loop-cube l = All IsCube (take l.cube-index l.list)
