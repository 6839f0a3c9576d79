use Rattle.std.proofs.Common.{◌≡◌, ℕ, ◌<◌, nat_eq}
use Rattle.std.specs.Prelude.{slice_get, Some}
use Rattle.ras_logic.specs.declared.literal.Literal.{Literal}
use Rattle.ras_refute.specs.declared.entry.Pair.{Pair}
use Rattle.ras_logic.specs.Literals.{same_of}
use Rattle.ras_refute.specs.Classes.{class}
use Rattle.ras_refute.proofs.facts.find_violated_fact.Given as goal

abbrev pub invariant-loop-k : goal.invariant-loop-k
invariant-loop-k l = (j : ℕ) → j < l.k → (fact : Literal) (pair : Pair) → slice_get l.facts j ≡ Some fact → slice_get l.table.sides j ≡ Some pair → same_of fact ≡ l.same
    → nat_eq (class l.classes pair.left) (class l.classes pair.right) ≡ l.same
