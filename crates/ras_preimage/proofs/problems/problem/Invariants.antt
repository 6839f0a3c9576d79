use Rattle.std.proofs.Common.{◌≡◌, ◌++◌, map, take}
use Rattle.ras_logic.specs.Formulas.{replace}
use Rattle.ras_system.specs.Preimages.{base_before}
use Rattle.ras_preimage.specs.Parts.{source_of}
use Rattle.ras_preimage.proofs.problems.problem.Given as goal

abbrev pub invariant-loop-literal : goal.invariant-loop-literal
invariant-loop-literal l = l.literals ≡ l.initial.literals ++ map (replace (base_before l.transition (map (source_of l.transition l.updated) l.sources))) (take l.literal-index l.literal-items)
