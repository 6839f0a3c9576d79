use Rattle.std.proofs.Common.{◌≡◌, ◌-◌}
use Rattle.ras_lines.specs.Lines.{lines_of}
use Rattle.ras_lines.specs.Fronts.{prepend, times}
use Rattle.ras_journals.specs.JournalReading as first
use Rattle.ras_journals.proofs.journals.events.Given as goal

abbrev pub invariant-loop : goal.invariant-loop
invariant-loop l = times first.next_event l.count (lines_of l.fn.lines.rest.now) ≡ prepend l.journal.events (times first.next_event (l.count - l.counter) (lines_of l.lines.rest.now))
