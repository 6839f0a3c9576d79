use Rattle.std.proofs.Common.{refl, [], ◌∷◌}
use Rattle.ras_logic.specs.declared.tree.Node.TheVariants.{Leaf, Split}
use Rattle.ras_vectors.specs.Words.{cube, same, apart}
use Rattle.ras_vectors.specs.Small.{still, one_element, x, unset}
use Rattle.ras_vectors.specs.Depot.{shape, schema, stock, all_cases, place, hall, front, main_hall}
use Rattle.ras_vectors.proofs.Facts.{hold_together-no_clash}
use Rattle.ras_vectors.proofs.GoodEvidence.{children_of}
use Rattle.ras_vectors.proofs.evidence.broken_trees.Goals as goal

pub returns-clause-no_clash : goal.returns-clause-no_clash
returns-clause-no_clash c = λ h. hold_together-no_clash still.shape [] [] (apart x unset ∷ []) one_element (record { vars = 1 ∷ []; rows = []; params = [] }) refl h.0

-- the second child of the first split is left with one fact, which may hold
pub returns-clause-by_levels : goal.returns-clause-by_levels
returns-clause-by_levels c = λ h.
    let first = children_of schema all_cases [] [] [] 0 2 [] (Split 1 [] 1 ∷ Split 2 [] 1 ∷ Leaf ∷ Leaf ∷ []) (cube [] (same place front ∷ same hall main_hall ∷ [])) refl h in
    let second = children_of schema all_cases [] (apart place front ∷ []) ((apart hall main_hall ∷ []) ∷ []) 1 1 [] (Split 2 [] 1 ∷ Leaf ∷ Leaf ∷ []) (cube [] (apart place front ∷ [])) refl first in
    let third = children_of schema all_cases [] (same place front ∷ apart place front ∷ []) ((apart hall main_hall ∷ []) ∷ []) 2 1 [] (Leaf ∷ Leaf ∷ []) (cube [] (apart hall main_hall ∷ [])) refl second in
    hold_together-no_clash shape [] [] (apart hall main_hall ∷ []) stock (record { vars = 0 ∷ 2 ∷ []; rows = []; params = [] }) refl third.1.0
