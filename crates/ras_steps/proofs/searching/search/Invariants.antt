use Rattle.std.proofs.Common.{◌≡◌, ◌+◌, length}
use Rattle.ras_steps.specs.Searching.{StandsAt, widths, turns_left}
use Rattle.ras_steps.proofs.searching.search.Given as goal

abbrev pub invariant-loop-place : goal.invariant-loop-place
invariant-loop-place l = record { at : StandsAt l.db l.state l.rows l.literals l.numbers.items l.place; as_long : length l.numbers.items ≡ length l.initial.numbers.items }

abbrev pub decreases-loop-place : goal.decreases-loop-place
decreases-loop-place l = turns_left (widths l.state l.rows) l.numbers.items l.place + l.place
