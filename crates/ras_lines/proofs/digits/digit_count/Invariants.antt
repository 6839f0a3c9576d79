use Rattle.std.proofs.Common.{◌≡◌, ◌+◌, length}
use Rattle.ras_lines.specs.Numbers.{digit_count}
use Rattle.ras_lines.proofs.digits.digit_count.Given as goal

abbrev pub invariant-loop-byte : goal.invariant-loop-byte
invariant-loop-byte l = record {
  value : l.count + digit_count l.rest ≡ digit_count l.bytes;
  count : l.count + length l.rest ≡ length l.bytes;
}

abbrev pub decreases-loop-byte : goal.decreases-loop-byte
decreases-loop-byte l = length l.rest
