use Rattle.std.proofs.Common.{◌≡◌, drop}
use Rattle.ras_logic.specs.Truth.{image_along as the_end}
use Rattle.ras_logic.proofs.truth.image_along.Given as goal

abbrev pub invariant-loop-function : goal.invariant-loop-function
invariant-loop-function l = the_end l.db l.path l.fn.start ≡ the_end l.db (drop l.function-index l.path) l.element
