use Rattle.ras_logic.proofs.Clashes.{clash-none}
use Rattle.ras_logic.proofs.law.a_clash_has_no_model.Goals as goal

pub returns : goal.returns
returns c = λ shape rows params facts ok fit clash d v db values hold. clash-none shape d db rows params v values ok facts fit hold clash
