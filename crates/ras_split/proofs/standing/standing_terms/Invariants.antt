use Rattle.std.proofs.Common.{◌≡◌, ℕ, ◌<◌, length, get_or}
use Rattle.std.specs.Prelude.{None}
use Rattle.ras_split.specs.Standing.{AreStanding, AreGapsTo}
use Rattle.ras_split.proofs.Filling.{vacant}
use Rattle.ras_split.proofs.standing.standing_terms.Given as goal

abbrev pub invariant-loop-i : goal.invariant-loop-i
invariant-loop-i l = record {
  long : length l.terms.items ≡ l._i;
  none : (j : ℕ) → j < l._i → get_or l.terms.items j None ≡ None;
}

abbrev pub invariant-loop-alloc : goal.invariant-loop-alloc
invariant-loop-alloc l = record {
  are : AreStanding l.closure l.terms.items;
  gaps : AreGapsTo l.closure l.terms.items (length l.closure.table.terms) l.found.items;
}

abbrev pub decreases-loop-alloc : goal.decreases-loop-alloc
decreases-loop-alloc l = vacant l.terms.items
