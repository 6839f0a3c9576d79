use Rattle.std.proofs.Common.{arith}
use Rattle.ras_lines.proofs.Numbers.{too_large, grows}
use Rattle.ras_lines.proofs.digits.number_of.Goals as goal

pub returns-then-n-ge4294967296 : goal.returns-then-n-ge4294967296
returns-then-n-ge4294967296 c = too_large c.args.word.now (omega (arith, grows c.loop-digit.n c.loop-digit.rest.now, c.loop-digit.invariant.value))
