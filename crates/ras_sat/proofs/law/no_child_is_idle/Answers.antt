use Rattle.ras_sat.proofs.Preorder.{child-needed}
use Rattle.ras_sat.proofs.law.no_child_is_idle.Goals as goal

pub returns : goal.returns
returns c = child-needed
