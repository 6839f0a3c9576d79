use Rattle.std.proofs.Common.{◌≡◌, ◌-◌}
use Rattle.ras_lines.specs.Lines.{lines_of}
use Rattle.ras_lines.specs.Fronts.{prepend, times}
use Rattle.ras_lines.specs.Sections.{at_line, numbers}
use Rattle.ras_runs.proofs.number_lines.several.Given as goal

abbrev pub invariant-loop : goal.invariant-loop
invariant-loop l =
    times (at_line (numbers l.word)) l.count (lines_of l.fn.lines.rest.now) ≡ prepend l.items (times (at_line (numbers l.word)) (l.count - l.counter) (lines_of l.lines.rest.now))
