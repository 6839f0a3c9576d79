use Rattle.ras_lexer.proofs.Order.{in_order}
use Rattle.ras_lexer.proofs.law.tokens_stand_in_order.Goals as goal

pub returns : goal.returns
returns c = in_order
