use Rattle.std.proofs.Common.{◌≡◌, ◌-◌}
use Rattle.ras_lines.specs.Lines.{lines_of}
use Rattle.ras_lines.specs.Fronts.{prepend, times}
use Rattle.ras_bundles.specs.SystemReading as first
use Rattle.ras_bundles.proofs.grammar.transitions.Given as goal

abbrev pub invariant-loop : goal.invariant-loop
invariant-loop l = times first.transition l.count (lines_of l.fn.lines.rest.now) ≡ prepend l.items (times first.transition (l.count - l.counter) (lines_of l.lines.rest.now))
