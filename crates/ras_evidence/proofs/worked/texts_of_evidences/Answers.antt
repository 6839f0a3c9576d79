use Rattle.std.proofs.Common.{refl}
use Rattle.std.specs.Prelude.{None}
use Rattle.ras_evidence.proofs.TextLaws.{text_read}
use Rattle.ras_evidence.specs.Worked.{wrong_owner_text, wrong_owner, spent_text, spent}
use Rattle.ras_evidence.proofs.worked.texts_of_evidences.Goals as goal

pub returns-clause-a_run : goal.returns-clause-a_run
returns-clause-a_run c = text_read wrong_owner_text (wrong_owner, None) refl refl

pub returns-clause-a_budget : goal.returns-clause-a_budget
returns-clause-a_budget c = text_read spent_text (spent, None) refl refl
