use Rattle.std.proofs.Common.{ℕ, ◌<◌}
use Rattle.ras_closure.specs.Elements.{number}
use Rattle.ras_closure.specs.Images.{IsImageAt}
use Rattle.ras_enlarge.proofs.tables.image_of_new.Given as goal

abbrev pub invariant-loop-k : goal.invariant-loop-k
invariant-loop-k l = (j : ℕ) → j < l.k → IsImageAt l.table (number l.numbers) l.function l.x j → ⊥
