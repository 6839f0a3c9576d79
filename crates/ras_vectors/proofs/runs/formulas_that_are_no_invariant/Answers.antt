use Rattle.std.proofs.Common.{◌≡◌, zero, suc, true, false, refl, [], ◌∷◌, arith, sym, subst}
use Rattle.ras_logic.specs.declared.problem.Problem.{Problem}
use Rattle.ras_system.specs.States.{Meets, MeetsAny}
use Rattle.ras_logic.specs.declared.raw_db.RawDb.{RawDb}
use Rattle.ras_system.specs.declared.state.State.{State}
use Rattle.ras_vectors.specs.Words.{state, choice, same}
use Rattle.ras_vectors.specs.Hiring.{careless, one_job, one_row, wrong_owner}
use Rattle.ras_vectors.specs.Small.{two, b_to_c, three_elements, is_b, is_c, x}
use Rattle.ras_vectors.proofs.DataTests.{is_database-passed}
use Rattle.ras_vectors.proofs.StateTests.{is_state-passed, meets-passed, may_step-passed}
use Rattle.ras_vectors.proofs.Violations.{unset_violation}
use Rattle.ras_vectors.proofs.runs.formulas_that_are_no_invariant.Goals as goal

-- a state that meets one of no formulas, and one of one formula
of_none : (d : RawDb) (s : State) → MeetsAny d s [] → ⊥
of_none d s m = omega (arith, m.2)

of_one : (d : RawDb) (s : State) (p : Problem) → MeetsAny d s (p ∷ []) → Meets d s p
of_one d s p (zero, q, lt, e, m) = subst (Meets d s) (sym e) m
of_one d s p (suc k, q, lt, e, m) = absurd (omega (arith, lt))

pub returns-clause-initial : goal.returns-clause-initial
returns-clause-initial c = λ h. h.initial _ _ unset_violation.database unset_violation.initial unset_violation.goal

pub returns-clause-goal : goal.returns-clause-goal
returns-clause-goal c = λ h.
    let last : State = state (3 ∷ []) [] in
    let m = of_one three_elements last is_b (h.goals three_elements last (is_database-passed two.shape.schema three_elements refl) (is_state-passed two.shape three_elements last refl)
    (0, is_c, omega arith, refl, meets-passed three_elements last is_c [] [] refl)) in
    let e : false ≡ true = m.4 0 (same x x) (omega arith) in cc

pub returns-clause-step : goal.returns-clause-step
returns-clause-step c = λ h.
    let old : State = state (2 ∷ []) [] in
    let last : State = state (3 ∷ []) [] in
    let m = of_one three_elements old is_c (h.steps three_elements old (choice 0 [] []) last (is_database-passed two.shape.schema three_elements refl) (is_state-passed two.shape three_elements old refl)
    (b_to_c, refl, may_step-passed three_elements b_to_c old (choice 0 [] []) refl) (0, is_c, omega arith, refl, meets-passed three_elements last is_c [] [] refl)) in
    let e : false ≡ true = m.4 0 (same x x) (omega arith) in cc

pub returns-clause-nothing : goal.returns-clause-nothing
returns-clause-nothing c = λ h. of_none one_job (one_row 1 2) (h.goals one_job (one_row 1 2) (is_database-passed careless.shape.schema one_job refl) (is_state-passed careless.shape one_job (one_row 1 2) refl)
    (0, wrong_owner, omega arith, refl, meets-passed one_job (one_row 1 2) wrong_owner (0 ∷ []) [] refl))
