use Rattle.std.proofs.Common.{sym}
use Rattle.ras_syntax.proofs.First.{place_at, place_past}
use Rattle.ras_syntax.proofs.parsing.place.Goals as goal

pub returns-then-index-tokens : goal.returns-then-index-tokens
returns-then-index-tokens c = place_at c.args.tokens.now c.args.length c.args.index _ c.if-index-tokens.true

pub returns-else-index-tokens : goal.returns-else-index-tokens
returns-else-index-tokens c = sym (place_past c.args.tokens.now c.args.length c.args.index c.if-index-tokens.false)
