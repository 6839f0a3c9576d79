use Rattle.std.proofs.Common.{◌≡◌, ◌++◌, map, take}
use Rattle.ras_logic.specs.Formulas.{replace}
use Rattle.ras_system.specs.Preimages.{renumbered_row}
use Rattle.ras_preimage.proofs.ways.way_of_case.Given as goal

abbrev pub invariant-loop-literal : goal.invariant-loop-literal
invariant-loop-literal l = l.literals ≡ l.before ++ map (replace (renumbered_row l.updated l.number)) (take l.literal-index l.condition)
