use Rattle.std.proofs.Common.{length}
use Rattle.ras_lexer.proofs.Reaching.{Reaches}
use Rattle.ras_lexer.proofs.lexing.tokens.Given as goal

abbrev pub invariant-loop-rest : goal.invariant-loop-rest
invariant-loop-rest l = Reaches l.bytes l.tokens.items l.rest

abbrev pub decreases-loop-rest : goal.decreases-loop-rest
decreases-loop-rest l = length l.rest
