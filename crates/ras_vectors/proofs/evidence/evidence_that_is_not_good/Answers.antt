use Rattle.std.proofs.Common.{refl, [], ◌∷◌}
use Rattle.ras_logic.specs.declared.tree.Node.TheVariants.{Leaf}
use Rattle.ras_vectors.specs.Words.{same, apart}
use Rattle.ras_vectors.specs.Small.{two, three_elements, x, b, c as c_term, is_b, is_c}
use Rattle.ras_vectors.proofs.Facts.{hold_together-no_clash}
use Rattle.ras_vectors.proofs.GoodEvidence.{children_of}
use Rattle.ras_vectors.proofs.evidence.evidence_that_is_not_good.Goals as goal

-- the variable is b and not c
pub returns-clause-other_formula : goal.returns-clause-other_formula
returns-clause-other_formula c = λ h.
    let child = children_of two.shape.schema (is_c ∷ is_b ∷ []) [] (same x b ∷ same c_term c_term ∷ []) [] 0 1 [] (Leaf ∷ []) is_c refl h.closed.1.1.1.0 in
    hold_together-no_clash two.shape [] [] (apart x c_term ∷ same x b ∷ same c_term c_term ∷ []) three_elements (record { vars = 2 ∷ []; rows = []; params = [] }) refl child.0
