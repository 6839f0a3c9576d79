use Rattle.std.proofs.Common.{ℕ, ◌<◌, List, [], get_or, All}
use Rattle.ras_logic.specs.Truth.{AreElements}
use Rattle.ras_steps.proofs.fitting.relations_fit.Given as goal

abbrev pub invariant-loop-n : goal.invariant-loop-n
invariant-loop-n l = (q : ℕ) → q < l.n → All (AreElements l.db (get_or l.shape.relations q [])) (get_or l.state.relations q [])
