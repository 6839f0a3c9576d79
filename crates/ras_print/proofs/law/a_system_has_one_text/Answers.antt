use Rattle.ras_print.proofs.SameFile.{one_text}
use Rattle.ras_print.proofs.law.a_system_has_one_text.Goals as goal

pub returns : goal.returns
returns c = one_text
