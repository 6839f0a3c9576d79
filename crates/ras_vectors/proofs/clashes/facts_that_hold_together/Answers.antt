use Rattle.std.proofs.Common.{refl, [], ◌∷◌}
use Rattle.ras_vectors.specs.Words.{sort, same, apart}
use Rattle.ras_vectors.specs.Depot.{shape, tasks, stock, place, shelf, picked, shelf_of, hall_of, front, back, no_parcel, no_shelf}
use Rattle.ras_vectors.proofs.Facts.{hold_together-no_clash}
use Rattle.ras_vectors.proofs.clashes.facts_that_hold_together.Goals as goal

-- parcel 3 has no shelf
pub returns-clause-nullable : goal.returns-clause-nullable
returns-clause-nullable c = hold_together-no_clash shape [] (sort 0 ∷ []) (same (shelf_of picked) no_shelf ∷ apart picked no_parcel ∷ []) stock
    (record { vars = 0 ∷ 0 ∷ []; rows = []; params = 3 ∷ [] }) refl

-- shelves 1 and 2 are in one hall
pub returns-clause-one_image : goal.returns-clause-one_image
returns-clause-one_image c = hold_together-no_clash shape (tasks ∷ []) [] (same (hall_of place) (hall_of (shelf 0)) ∷ apart place (shelf 0) ∷ []) stock
    (record { vars = 1 ∷ 0 ∷ []; rows = (0 ∷ 2 ∷ []) ∷ []; params = [] }) refl

pub returns-clause-third_element : goal.returns-clause-third_element
returns-clause-third_element c = hold_together-no_clash shape [] [] (apart place front ∷ apart place back ∷ apart place no_shelf ∷ []) stock
    (record { vars = 3 ∷ 0 ∷ []; rows = []; params = [] }) refl

pub returns-clause-no_facts : goal.returns-clause-no_facts
returns-clause-no_facts c = hold_together-no_clash shape [] [] [] stock (record { vars = 0 ∷ 0 ∷ []; rows = []; params = [] }) refl
