use Rattle.std.proofs.Common.{take, true}
use Rattle.std.specs.Prelude.{All}
use Rattle.std.specs.Bool.{OnTrue}
use Rattle.ras_logic.specs.declared.literal.Literal.{Literal}
use Rattle.ras_logic.specs.Formulas.{replace}
use Rattle.ras_logic.specs.Refutations.{chosen_row}
use Rattle.ras_known.specs.Knowledge.{IsTruth}
use Rattle.ras_entail.proofs.judging.judge.Given as goal

abbrev pub invariant-loop-literal : goal.invariant-loop-literal
invariant-loop-literal l =
    OnTrue l.all_hold (All (λ (m : Literal). IsTruth l.known.shape.now l.known.premise.now (replace (chosen_row l.rows) m) true) (take l.literal-index l.cube.literals))
