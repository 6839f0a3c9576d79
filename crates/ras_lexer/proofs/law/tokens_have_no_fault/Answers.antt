use Rattle.ras_lexer.proofs.Unique.{apart}
use Rattle.ras_lexer.proofs.law.tokens_have_no_fault.Goals as goal

pub returns : goal.returns
returns c = apart
