use Rattle.std.proofs.Common.{ℕ, ◌<◌}
use Rattle.ras_database.specs.DatabaseFaults.{IsClash}
use Rattle.ras_database.proofs.checking.earlier_same.Given as goal

abbrev pub invariant-loop-first : goal.invariant-loop-first
invariant-loop-first l = (i : ℕ) → i < l.first → IsClash l.schema l.raw i l.second → ⊥
