use Rattle.std.proofs.Common.{take}
use Rattle.std.specs.Prelude.{All}
use Rattle.ras_subsumption.specs.Widened.{IsTrivial, HasSidesOver}
use Rattle.ras_subsumption.proofs.widening.all_sides.Given as goal

abbrev pub invariant-loop-literal : goal.invariant-loop-literal
invariant-loop-literal l = All (IsTrivial l.shape l.rows) l.more × All (HasSidesOver l.shape l.rows l.more) (take l.literal-index l.literals)
