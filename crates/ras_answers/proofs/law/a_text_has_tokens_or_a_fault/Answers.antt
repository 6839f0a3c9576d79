use Rattle.ras_answers.proofs.Pieces.{tokens_or_fault}
use Rattle.ras_answers.proofs.law.a_text_has_tokens_or_a_fault.Goals as goal

pub returns : goal.returns
returns c = tokens_or_fault
