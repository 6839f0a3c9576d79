use Rattle.std.proofs.Common.{refl, [], ◌∷◌}
use Rattle.ras_vectors.specs.Words.{choice}
use Rattle.ras_vectors.specs.Hiring.{careless, apply_for_any, one_job, one_row}
use Rattle.ras_vectors.specs.Desk.{desk, take_seat, two_elements, three_seats}
use Rattle.ras_vectors.specs.Depot.{depot, move, stock, before_move}
use Rattle.ras_vectors.proofs.StateTests.{no_step}
use Rattle.ras_vectors.proofs.runs.choices_that_are_no_step.Goals as goal

pub returns-clause-row : goal.returns-clause-row
returns-clause-row c = no_step desk two_elements (three_seats 2 0 0 0) (choice 0 (3 ∷ []) []) take_seat refl refl

pub returns-clause-row_twice : goal.returns-clause-row_twice
returns-clause-row_twice c = no_step depot stock before_move (choice 0 (4 ∷ 1 ∷ 4 ∷ []) (2 ∷ [])) move refl refl

pub returns-clause-value : goal.returns-clause-value
returns-clause-value c = no_step careless one_job (one_row 0 0) (choice 0 (0 ∷ []) (1 ∷ 3 ∷ [])) apply_for_any refl refl
