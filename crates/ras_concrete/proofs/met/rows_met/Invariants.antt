use Rattle.std.proofs.Common.{All, take}
use Rattle.ras_logic.specs.declared.problem.Problem.{Problem}
use Rattle.ras_system.specs.States.{Meets}
use Rattle.ras_concrete.proofs.met.rows_met.Given as goal

abbrev pub invariant-loop-cube : goal.invariant-loop-cube
invariant-loop-cube l = All (λ (c : Problem). ¬ Meets l.db l.state c) (take l.cube-index l.cubes)
