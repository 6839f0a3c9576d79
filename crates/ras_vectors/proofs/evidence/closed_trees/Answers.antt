use Rattle.std.proofs.Common.{refl, [], ◌∷◌}
use Rattle.ras_logic.specs.Clashes.{symmetric}
use Rattle.ras_vectors.specs.Words.{cube, same, apart}
use Rattle.ras_vectors.specs.Depot.{schema, twins, tasks, carts, parcel, shelf, place, hall, front, main_hall}
use Rattle.ras_vectors.proofs.Facts.{said, denied, said_and_denied}
use Rattle.ras_vectors.proofs.GoodEvidence.{are_rows_of, no_rows}
use Rattle.ras_vectors.proofs.evidence.closed_trees.Goals as goal

pub returns-clause-rows : goal.returns-clause-rows
returns-clause-rows c = (
  twins,
  refl,
  are_rows_of (tasks ∷ carts ∷ tasks ∷ []) twins.rows (0 ∷ 2 ∷ []) (refl, (refl, tt)) refl,
  refl,
  (said_and_denied schema _ 1 0 (parcel 0) (parcel 2) refl refl, (said_and_denied schema _ 0 2 (shelf 0) (shelf 2) refl refl, tt)),
)

pub returns-clause-rows_turned : goal.returns-clause-rows_turned
returns-clause-rows_turned c = (
  twins,
  refl,
  are_rows_of (tasks ∷ carts ∷ tasks ∷ []) twins.rows (2 ∷ 0 ∷ []) (refl, (refl, tt)) refl,
  refl,
  (
    denied schema _ 0 (parcel 2) (parcel 0) refl (symmetric (parcel 0) (parcel 2) (said schema _ 1 (parcel 0) (parcel 2) refl)),
    (denied schema _ 2 (shelf 0) (shelf 2) refl (symmetric (shelf 2) (shelf 0) (said schema _ 0 (shelf 2) (shelf 0) refl)), tt),
  ),
)

pub returns-clause-nested : goal.returns-clause-nested
returns-clause-nested c = (
  cube [] (same place front ∷ same hall main_hall ∷ []),
  refl,
  no_rows [],
  refl,
  (
    cube [] (apart place front ∷ []),
    refl,
    no_rows [],
    refl,
    (
      said_and_denied schema _ 0 1 place front refl refl,
      (cube [] (apart hall main_hall ∷ []), refl, no_rows [], refl, (said_and_denied schema _ 0 1 hall main_hall refl refl, tt)),
    ),
  ),
)

pub returns-clause-no_literals : goal.returns-clause-no_literals
returns-clause-no_literals c = (cube [] [], refl, no_rows [], refl, tt)
