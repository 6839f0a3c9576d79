use Rattle.ras_lexer.proofs.Unique.{one_list}
use Rattle.ras_lexer.proofs.law.tokens_are_one.Goals as goal

pub returns : goal.returns
returns c = one_list
