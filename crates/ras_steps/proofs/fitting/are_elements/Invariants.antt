use Rattle.std.proofs.Common.{ℕ, ◌<◌, ◌≡◌, get_or}
use Rattle.std.specs.Prelude.{slice_get, Some}
use Rattle.ras_logic.specs.declared.ids.SortId.{SortId}
use Rattle.ras_logic.specs.Databases.{IsElement}
use Rattle.ras_steps.proofs.fitting.are_elements.Given as goal

abbrev pub invariant-loop-k : goal.invariant-loop-k
invariant-loop-k l = (j : ℕ) → j < l.k → (s : SortId) → slice_get l.sorts j ≡ Some s → IsElement l.db s (get_or l.numbers j 0)
