use Rattle.std.proofs.Common.{All, take}
use Rattle.ras_logic.specs.Schemas.{IsSort}
use Rattle.ras_logic.proofs.places.first_bad_sort.Given as goal

abbrev pub invariant-loop-place : goal.invariant-loop-place
invariant-loop-place l = All (IsSort l.sorts) (take l.place l.named)
