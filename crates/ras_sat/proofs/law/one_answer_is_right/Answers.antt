use Rattle.ras_sat.proofs.Excluding.{closed-no_escape}
use Rattle.ras_sat.proofs.law.one_answer_is_right.Goals as goal

pub returns : goal.returns
returns c = closed-no_escape
