use Rattle.ras_cover.specs.CaseCubes.{AreCubesTo}
use Rattle.ras_cover.proofs.covering.case_cubes.Given as goal

abbrev pub invariant-loop-case : goal.invariant-loop-case
invariant-loop-case l = AreCubesTo l.shape l.cases l.case-index l.cubes
