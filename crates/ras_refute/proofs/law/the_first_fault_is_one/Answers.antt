use Rattle.std.proofs.Common.{[], ◌∷◌}
use Rattle.ras_refute.proofs.Passing.{first_fault-same}
use Rattle.ras_refute.proofs.law.the_first_fault_is_one.Goals as goal

pub returns : goal.returns
returns c = λ schema premise formulas nodes fault other. first_fault-same schema formulas premise.rows nodes 0 (premise.literals ∷ []) fault other
