use Rattle.std.proofs.Common.{◌≡◌, ℕ, ◌<◌, [], length, get_or}
use Rattle.std.specs.Prelude.{slice_get}
use Rattle.ras_database.proofs.extending.tables_extend.Given as goal

abbrev pub invariant-loop-f : goal.invariant-loop-f
invariant-loop-f l = (g : ℕ) → g < l.f → (k : ℕ) → k < length (get_or l.smaller g []) → slice_get (get_or l.larger g []) k ≡ slice_get (get_or l.smaller g []) k
