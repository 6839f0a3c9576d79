use Rattle.std.proofs.Common.{ℕ, ◌<◌, get_or, [], ◌≡◌, false}
use Rattle.std.specs.List.{list_all}
use Rattle.ras_logic.specs.Truth.{holds as the_truth}
use Rattle.ras_steps.specs.Sights.{seen}
use Rattle.ras_steps.proofs.truth.guard_holds.Given as goal

abbrev pub invariant-loop-disjunct : goal.invariant-loop-disjunct
invariant-loop-disjunct l = (k : ℕ) → k < l.disjunct-index → list_all (the_truth l.db (seen l.sight)) (get_or l.guard k []) ≡ false
