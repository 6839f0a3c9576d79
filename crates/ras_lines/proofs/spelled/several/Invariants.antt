use Rattle.std.proofs.Common.{◌≡◌, ◌-◌}
use Rattle.ras_lines.specs.Fronts.{prepend, times}
use Rattle.ras_lines.specs.Numbers.{behind_blank}
use Rattle.ras_lines.proofs.spelled.several.Given as goal

abbrev pub invariant-loop : goal.invariant-loop
invariant-loop g l =
    times (behind_blank g.T.Spelled.first) l.count l.fn.words.rest.now ≡ prepend l.items (times (behind_blank g.T.Spelled.first) (l.count - l.counter) l.words.rest.now)
