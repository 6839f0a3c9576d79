use Rattle.std.proofs.Common.{refl, [], ◌∷◌}
use Rattle.ras_vectors.specs.Words.{cube, problem, sort, same, apart}
use Rattle.ras_vectors.specs.Hiring.{one_job, one_row}
use Rattle.ras_vectors.specs.Desk.{two_elements, three_seats, seats, seat, off_and_on}
use Rattle.ras_vectors.specs.Depot.{stock, before_move, tasks, carts, shelf, stand, place, picked, shelf_of, no_shelf}
use Rattle.ras_vectors.proofs.StateTests.{meets-passed}
use Rattle.ras_vectors.proofs.states.states_that_meet_a_formula.Goals as goal

pub returns : goal.returns
returns c = record {
  two_rows = meets-passed two_elements (three_seats 1 2 1 1) off_and_on (0 ∷ 1 ∷ []) [] refl;
  equal_rows = meets-passed two_elements (three_seats 1 0 0 0) (cube (seats ∷ seats ∷ []) (same (seat 0) (seat 1) ∷ [])) (2 ∷ 0 ∷ []) [] refl;
  one_number = meets-passed stock before_move (cube (tasks ∷ carts ∷ []) (apart (shelf 0) (stand 1) ∷ same (shelf 0) place ∷ [])) (2 ∷ 2 ∷ []) [] refl;
  param = meets-passed stock before_move (problem (tasks ∷ []) (sort 0 ∷ []) (same (shelf_of picked) (shelf 0) ∷ apart (shelf 0) no_shelf ∷ [])) (2 ∷ []) (1 ∷ []) refl;
  no_row_named = meets-passed one_job (one_row 0 0) (cube [] []) [] [] refl;
}
