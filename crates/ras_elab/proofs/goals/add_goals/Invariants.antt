use Rattle.std.proofs.Common.{◌≡◌, ◌++◌, map}
use Rattle.std.specs.Prelude.{All}
use Rattle.ras_logic.specs.Formulas.{HasNoParam}
use Rattle.ras_elab.specs.Goals.{cube_of}
use Rattle.ras_elab.proofs.goals.add_goals.Given as goal

abbrev pub invariant-loop-literals : goal.invariant-loop-literals
invariant-loop-literals l = record {
  cubes : l.cubes ≡ l.fn.cubes ++ map (cube_of l.rows) l.yielded;
  left : All (All HasNoParam) l.literals-iterator.rest.items;
}
