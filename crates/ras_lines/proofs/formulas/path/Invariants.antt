use Rattle.std.proofs.Common.{◌≡◌, length}
use Rattle.ras_lines.specs.Fronts.{prepend}
use Rattle.ras_lines.specs.Formulas as first
use Rattle.ras_lines.proofs.formulas.path.Given as goal

abbrev pub invariant-loop-words : goal.invariant-loop-words
invariant-loop-words l = first.path l.fn.words.rest.now ≡ prepend l.path (first.path l.words.rest.now)

abbrev pub decreases-loop-words : goal.decreases-loop-words
decreases-loop-words l = length l.words.rest.now
