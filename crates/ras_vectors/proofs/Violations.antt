-- The runs of the unsafe systems.
use Rattle.std.proofs.Common.{refl, [], ◌∷◌, arith}
use Rattle.ras_system.specs.Steps.{IsStep}
use Rattle.ras_system.specs.Runs.{IsRun, IsViolation}
use Rattle.ras_vectors.specs.Words.{choice, state, cube, same}
use Rattle.ras_vectors.specs.Hiring.{careless, apply_for_any, one_job, one_row, wrong_owner}
use Rattle.ras_vectors.specs.Desk.{desk, take_seat, clear, two_elements, three_seats, off_and_on}
use Rattle.ras_vectors.specs.Small.{unset_is_unsafe, one_element, x, unset}
use Rattle.ras_vectors.proofs.DataTests.{is_database-passed}
use Rattle.ras_vectors.proofs.StateTests.{is_initial-passed, meets-passed, may_step-passed}

pub first : IsStep desk two_elements (three_seats 2 0 0 0) (choice 0 (0 ∷ []) []) (three_seats 2 1 0 0)
first = (take_seat, refl, may_step-passed two_elements take_seat (three_seats 2 0 0 0) (choice 0 (0 ∷ []) []) refl)

pub second : IsStep desk two_elements (three_seats 2 1 0 0) (choice 0 (1 ∷ []) []) (three_seats 2 1 1 0)
second = (take_seat, refl, may_step-passed two_elements take_seat (three_seats 2 1 0 0) (choice 0 (1 ∷ []) []) refl)

pub third : IsStep desk two_elements (three_seats 2 1 1 0) (choice 1 (1 ∷ []) []) (three_seats 1 2 1 1)
third = (clear, refl, may_step-passed two_elements clear (three_seats 2 1 1 0) (choice 1 (1 ∷ []) []) refl)

pub desk_run : IsRun desk two_elements (three_seats 2 0 0 0) (choice 0 (0 ∷ []) [] ∷ choice 0 (1 ∷ []) [] ∷ choice 1 (1 ∷ []) [] ∷ []) (three_seats 1 2 1 1)
desk_run = (three_seats 2 1 0 0, first, (three_seats 2 1 1 0, second, (three_seats 1 2 1 1, third, refl)))

pub desk_violation : IsViolation desk two_elements (three_seats 2 0 0 0) (choice 0 (0 ∷ []) [] ∷ choice 0 (1 ∷ []) [] ∷ choice 1 (1 ∷ []) [] ∷ []) (three_seats 1 2 1 1)
desk_violation = record {
  database = is_database-passed desk.shape.schema two_elements refl;
  initial = is_initial-passed desk two_elements (three_seats 2 0 0 0) refl;
  run = desk_run;
  goal = (0, off_and_on, omega arith, refl, meets-passed two_elements (three_seats 1 2 1 1) off_and_on (0 ∷ 1 ∷ []) [] refl);
}

pub careless_violation : IsViolation careless one_job (one_row 0 0) (choice 0 (0 ∷ []) (1 ∷ 2 ∷ []) ∷ []) (one_row 1 2)
careless_violation = record {
  database = is_database-passed careless.shape.schema one_job refl;
  initial = is_initial-passed careless one_job (one_row 0 0) refl;
  run = (one_row 1 2, (apply_for_any, refl, may_step-passed one_job apply_for_any (one_row 0 0) (choice 0 (0 ∷ []) (1 ∷ 2 ∷ [])) refl), refl);
  goal = (0, wrong_owner, omega arith, refl, meets-passed one_job (one_row 1 2) wrong_owner (0 ∷ []) [] refl);
}

pub unset_violation : IsViolation unset_is_unsafe one_element (state (0 ∷ []) []) [] (state (0 ∷ []) [])
unset_violation = record {
  database = is_database-passed unset_is_unsafe.shape.schema one_element refl;
  initial = is_initial-passed unset_is_unsafe one_element (state (0 ∷ []) []) refl;
  run = refl;
  goal = (0, _, omega arith, refl, meets-passed one_element (state (0 ∷ []) []) (cube [] (same x unset ∷ [])) [] [] refl);
}
