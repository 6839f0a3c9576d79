use Rattle.std.proofs.Common.{[], ◌∷◌}
use Rattle.ras_refute.proofs.Passing.{fault-no_closing}
use Rattle.ras_refute.proofs.law.a_fault_is_no_closing.Goals as goal

pub returns : goal.returns
returns c = λ schema premise formulas nodes fault h. fault-no_closing schema formulas premise.rows nodes 0 (premise.literals ∷ []) fault h
