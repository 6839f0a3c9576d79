use Rattle.std.proofs.Common.{refl, [], ◌∷◌}
use Rattle.ras_logic.specs.Clashes.{reflexive, symmetric, transitive, same_images, image_of_undef, only_undef, constant_undef}
use Rattle.ras_vectors.specs.Words.{sort, function, constant, nullable, total, same, apart}
use Rattle.ras_vectors.specs.Depot.{schema, place, parcel, shelf, stand, picked, shelf_of, hall_of, front, back as behind, no_parcel, no_shelf, no_hall}
use Rattle.ras_vectors.proofs.Facts.{side, part_of_side, said, denied, constants_together}
use Rattle.ras_vectors.proofs.clashes.facts_that_clash.Goals as goal

pub returns-clause-itself : goal.returns-clause-itself
returns-clause-itself c =
    let facts = apart place place ∷ [] in
    denied schema facts 0 place place refl (reflexive place (side schema facts 0 place refl))

pub returns-clause-back : goal.returns-clause-back
returns-clause-back c =
    let facts = same place front ∷ apart front place ∷ [] in
    denied schema facts 1 front place refl (symmetric place front (said schema facts 0 place front refl))

pub returns-clause-through : goal.returns-clause-through
returns-clause-through c =
    let facts = same place (shelf 0) ∷ apart place (stand 1) ∷ same (shelf 0) (stand 1) ∷ [] in
    denied schema facts 1 place (stand 1) refl
    (transitive place (shelf 0) (stand 1) (said schema facts 0 place (shelf 0) refl) (said schema facts 2 (shelf 0) (stand 1) refl))

pub returns-clause-images : goal.returns-clause-images
returns-clause-images c =
    let facts = same place (shelf 0) ∷ apart (hall_of place) (hall_of (shelf 0)) ∷ [] in
    denied schema facts 1 (hall_of place) (hall_of (shelf 0)) refl
    (same_images place (shelf 0) (function 1) (said schema facts 0 place (shelf 0) refl)
    (side schema facts 2 (hall_of place) refl) (side schema facts 3 (hall_of (shelf 0)) refl))

pub returns-clause-images_of_images : goal.returns-clause-images_of_images
returns-clause-images_of_images c =
    let facts = apart (hall_of (shelf_of picked)) (hall_of (shelf_of (parcel 0))) ∷ same picked (parcel 0) ∷ [] in
    denied schema facts 0 (hall_of (shelf_of picked)) (hall_of (shelf_of (parcel 0))) refl
    (same_images (shelf_of picked) (shelf_of (parcel 0)) (function 1)
    (same_images picked (parcel 0) (function 0) (said schema facts 1 picked (parcel 0) refl)
    (part_of_side schema facts 0 (hall_of (shelf_of picked)) (shelf_of picked) (function 1 ∷ []) refl refl refl)
    (part_of_side schema facts 1 (hall_of (shelf_of (parcel 0))) (shelf_of (parcel 0)) (function 1 ∷ []) refl refl refl))
    (side schema facts 0 (hall_of (shelf_of picked)) refl) (side schema facts 1 (hall_of (shelf_of (parcel 0))) refl))

pub returns-clause-undef_image : goal.returns-clause-undef_image
returns-clause-undef_image c =
    let facts = same picked no_parcel ∷ apart (shelf_of picked) no_shelf ∷ [] in
    denied schema facts 1 (shelf_of picked) no_shelf refl
    (image_of_undef picked (function 0) (nullable 0 1) refl (said schema facts 0 picked no_parcel refl) (side schema facts 2 (shelf_of picked) refl))

pub returns-clause-undef_image_of_image : goal.returns-clause-undef_image_of_image
returns-clause-undef_image_of_image c =
    let facts = same picked no_parcel ∷ apart (hall_of (shelf_of picked)) no_hall ∷ [] in
    denied schema facts 1 (hall_of (shelf_of picked)) no_hall refl
    (image_of_undef (shelf_of picked) (function 1) (total 1 2) refl
    (image_of_undef picked (function 0) (nullable 0 1) refl (said schema facts 0 picked no_parcel refl)
    (part_of_side schema facts 2 (hall_of (shelf_of picked)) (shelf_of picked) (function 1 ∷ []) refl refl refl))
    (side schema facts 2 (hall_of (shelf_of picked)) refl))

pub returns-clause-only_undef : goal.returns-clause-only_undef
returns-clause-only_undef c =
    let facts = same (hall_of place) no_hall ∷ apart place no_shelf ∷ [] in
    denied schema facts 1 place no_shelf refl
    (only_undef place (function 1) (total 1 2) refl refl (said schema facts 0 (hall_of place) no_hall refl))

pub returns-clause-constants : goal.returns-clause-constants
returns-clause-constants c =
    let facts = same place front ∷ same behind place ∷ [] in
    constants_together schema facts 1 0 (λ e. cc)
    (transitive behind place front (said schema facts 1 behind place refl) (said schema facts 0 place front refl))

pub returns-clause-constant_and_undef : goal.returns-clause-constant_and_undef
returns-clause-constant_and_undef c =
    let facts = same (hall_of front) no_hall ∷ [] in
    constant_undef (constant 0) (sort 1) (only_undef front (function 1) (total 1 2) refl refl (said schema facts 0 (hall_of front) no_hall refl))
