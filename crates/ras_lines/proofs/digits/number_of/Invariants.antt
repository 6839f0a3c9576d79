use Rattle.std.proofs.Common.{◌≡◌, ◌+◌, ◌*◌, ◌^◌, ◌<◌, length}
use Rattle.std.specs.Str.{all_ascii_digits}
use Rattle.ras_lines.specs.Numeral.{read_on}
use Rattle.ras_lines.proofs.digits.number_of.Given as goal

abbrev pub invariant-loop-digit : goal.invariant-loop-digit
invariant-loop-digit l = record {
  value : read_on l.n l.rest ≡ read_on 0 l.word;
  digits : all_ascii_digits l.rest ≡ all_ascii_digits l.word;
  small : l.n < 10 * 2 ^ 32 + 10;
}

abbrev pub decreases-loop-digit : goal.decreases-loop-digit
decreases-loop-digit l = length l.rest
