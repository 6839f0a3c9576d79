use Rattle.std.proofs.Common.{refl, [], ◌∷◌}
use Rattle.ras_logic.specs.Clashes.{symmetric, transitive, same_images, only_undef}
use Rattle.ras_vectors.specs.Words.{function, total, same, apart}
use Rattle.ras_vectors.specs.Depot.{schema, place, shelf, hall_of, no_shelf, no_hall}
use Rattle.ras_vectors.proofs.Facts.{side, said_over, denied_over}
use Rattle.ras_vectors.proofs.clashes.facts_learned_later.Goals as goal

pub returns-clause-clash : goal.returns-clause-clash
returns-clause-clash c =
    let literals = apart (hall_of place) (hall_of (shelf 0)) ∷ [] in
    let facts = same place (shelf 0) ∷ same no_hall (hall_of place) ∷ apart (shelf 0) no_shelf ∷ [] in
    denied_over schema literals facts 2 (shelf 0) no_shelf refl
    (transitive (shelf 0) place no_shelf (symmetric place (shelf 0) (said_over schema literals facts 0 place (shelf 0) refl))
    (only_undef place (function 1) (total 1 2) refl refl (symmetric no_hall (hall_of place) (said_over schema literals facts 1 no_hall (hall_of place) refl))))

pub returns-clause-clash_of_images : goal.returns-clause-clash_of_images
returns-clause-clash_of_images c =
    let literals = apart (hall_of place) (hall_of (shelf 0)) ∷ [] in
    let facts = same place (shelf 0) ∷ apart (hall_of place) (hall_of (shelf 0)) ∷ [] in
    denied_over schema literals facts 1 (hall_of place) (hall_of (shelf 0)) refl
    (same_images place (shelf 0) (function 1) (said_over schema literals facts 0 place (shelf 0) refl)
    (side schema literals 0 (hall_of place) refl) (side schema literals 1 (hall_of (shelf 0)) refl))
