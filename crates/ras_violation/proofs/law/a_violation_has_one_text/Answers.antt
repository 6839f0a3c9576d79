use Rattle.ras_violation.proofs.OneText.{one_text}
use Rattle.ras_violation.proofs.law.a_violation_has_one_text.Goals as goal

pub returns : goal.returns
returns c = λ system d run text other cubes g h. one_text system d run text other cubes g h
