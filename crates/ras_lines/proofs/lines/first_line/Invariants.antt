use Rattle.std.proofs.Common.{◌≡◌, ◌+◌, length, take, drop}
use Rattle.ras_lines.specs.Faults.{HasNoLineFeed}
use Rattle.ras_lines.proofs.lines.first_line.Given as goal

abbrev pub invariant-loop-byte : goal.invariant-loop-byte
invariant-loop-byte l = record {
  rest : l.rest ≡ drop l.length l.bytes;
  count : l.length + length l.rest ≡ length l.bytes;
  unended : HasNoLineFeed (take l.length l.bytes);
}

abbrev pub decreases-loop-byte : goal.decreases-loop-byte
decreases-loop-byte l = length l.rest
