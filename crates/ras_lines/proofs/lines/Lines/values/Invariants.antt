use Rattle.std.proofs.Common.{◌≡◌, ◌-◌}
use Rattle.ras_lines.specs.Lines.{lines_of}
use Rattle.ras_lines.specs.Fronts.{prepend, times}
use Rattle.ras_lines.specs.Sections.{at_line}
use Rattle.ras_lines.proofs.lines.Lines.values.Given as goal

abbrev pub invariant-loop : goal.invariant-loop
invariant-loop g l =
    times (at_line g.T.Spelled.first) l.count (lines_of l.fn.self.rest.now) ≡ prepend l.items (times (at_line g.T.Spelled.first) (l.count - l.counter) (lines_of l.self.rest.now))
