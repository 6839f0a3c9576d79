use Rattle.std.proofs.Common.{length, ◌-◌, ◌≤◌}
use Rattle.ras_core.specs.Bookkeeping.{NoneBefore}
use Rattle.ras_core.proofs.entries.first_from.Given as goal

abbrev pub invariant-loop-at : goal.invariant-loop-at
invariant-loop-at l = NoneBefore l.what l.entries l.at × (l.at ≤ length l.entries)

abbrev pub decreases-loop-at : goal.decreases-loop-at
decreases-loop-at l = length l.entries - l.at
