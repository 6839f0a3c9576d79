use Rattle.std.proofs.Common.{All, take}
use Rattle.ras_logic.specs.Formulas.{HasNoParam}
use Rattle.ras_logic.proofs.cube.first_with_param.Given as goal

abbrev pub invariant-loop-place : goal.invariant-loop-place
invariant-loop-place l = All HasNoParam (take l.place l.literals)
