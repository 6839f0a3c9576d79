use Rattle.std.proofs.Common.{◌≡◌, ℕ, ◌<◌}
use Rattle.ras_refute.specs.Classes.{class, IsImage}
use Rattle.ras_refute.proofs.rules.find_congruent_image.Given as goal

abbrev pub invariant-loop-j : goal.invariant-loop-j
invariant-loop-j l = (k other : ℕ) → k < l.j → IsImage l.table.entries k other l.function → class l.classes l.of ≡ class l.classes other → class l.classes l.i ≡ class l.classes k
