use Rattle.std.proofs.Common.{◌≡◌, take, true}
use Rattle.std.specs.List.{list_all}
use Rattle.ras_logic.specs.Truth.{holds as the_truth}
use Rattle.ras_steps.specs.Sights.{seen}
use Rattle.ras_steps.proofs.truth.all_hold.Given as goal

abbrev pub invariant-loop-literal : goal.invariant-loop-literal
invariant-loop-literal l = list_all (the_truth l.db (seen l.sight)) (take l.literal-index l.literals) ≡ true
