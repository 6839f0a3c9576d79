use Rattle.std.proofs.Common.{◌≡◌, ℕ, ◌<◌, get_or}
use Rattle.std.specs.Prelude.{slice_get, Some}
use Rattle.ras_logic.specs.declared.ids.RelId.{RelId}
use Rattle.ras_steps.proofs.searching.is_new.Given as goal

abbrev pub invariant-loop-i : goal.invariant-loop-i
invariant-loop-i l = (j : ℕ) → j < l.i → (r : RelId) → slice_get l.rows j ≡ Some r → slice_get l.rows l.place ≡ Some r → get_or l.numbers j 0 ≡ get_or l.numbers l.place 0 → ⊥
