use Rattle.std.proofs.Common.{ℕ, ◌≤◌}
use Rattle.ras_logic.specs.Terms.{base_term}
use Rattle.ras_closure.specs.Numbered.{IsAt}
use Rattle.ras_closure.proofs.term_table.TermTable.find_base.Given as goal

abbrev pub invariant-loop-i : goal.invariant-loop-i
invariant-loop-i l = (k : ℕ) → l.i ≤ k → IsAt l.self.terms k (base_term l.base) → ⊥
