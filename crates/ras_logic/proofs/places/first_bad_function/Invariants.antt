use Rattle.std.proofs.Common.{All, take}
use Rattle.ras_logic.specs.Schemas.{HasSorts}
use Rattle.ras_logic.proofs.places.first_bad_function.Given as goal

abbrev pub invariant-loop-place : goal.invariant-loop-place
invariant-loop-place l = All (HasSorts l.sorts) (take l.place l.functions)
