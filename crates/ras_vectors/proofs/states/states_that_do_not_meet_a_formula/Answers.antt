use Rattle.std.proofs.Common.{◌≡◌, ℕ, zero, suc, ◌<◌, ◌≤◌, true, false, List, [], ◌∷◌, length, get_or, nat_eq, refl, ap, subst, arith}
use Rattle.std.specs.Prelude.{not}
use Rattle.ras_logic.specs.Truth.{AllHold}
use Rattle.ras_system.specs.States.{values_at}
use Rattle.ras_vectors.specs.Words.{sort, same}
use Rattle.ras_vectors.specs.Hiring.{apps, wrong_owner, one_job, one_row, job}
use Rattle.ras_vectors.specs.Depot.{tasks}
use Rattle.ras_vectors.proofs.states.states_that_do_not_meet_a_formula.Goals as goal

pub returns-clause-one_row_for_two : goal.returns-clause-one_row_for_two
returns-clause-one_row_for_two c = λ m.
    let a : get_or m.0 0 0 < 1 = m.2.each 0 apps refl in
    let b : get_or m.0 1 0 < 1 = m.2.each 1 apps refl in
    let e : zero ≡ suc zero = m.2.different 0 1 apps refl refl (omega arith) in cc

pub returns-clause-no_row : goal.returns-clause-no_row
returns-clause-no_row c = λ m. let e : get_or m.0 1 0 < 0 = m.2.each 1 tasks refl in omega arith

-- the only row
the_row : (chosen : List ℕ) → length chosen ≡ 1 → get_or chosen 0 0 < 1 → chosen ≡ zero ∷ []
the_row [] many lt = absurd (omega (arith, many))
the_row (k ∷ []) many lt = ap (λ (n : ℕ). n ∷ []) (let e : k ≡ zero = omega (arith, lt) in e)
the_row (k ∷ n ∷ chosen) many lt = absurd (omega (arith, many))

pub returns-clause-right_owner : goal.returns-clause-right_owner
returns-clause-right_owner c = λ m.
    let only : m.0 ≡ zero ∷ [] = the_row m.0 m.2.as_many (m.2.each 0 apps refl) in
    let hold = subst (λ (chosen : List ℕ). AllHold one_job (values_at (one_row 1 1) wrong_owner.rows chosen m.1) wrong_owner.literals) only m.4 in
    let e : false ≡ true = hold 0 (same (job 0) (job 0)) (omega arith) in cc

pub returns-clause-literal : goal.returns-clause-literal
returns-clause-literal c = λ m. let e : false ≡ true = m.4 1 (same (job 0) (job 0)) (omega arith) in cc

pub returns-clause-param_beyond : goal.returns-clause-param_beyond
returns-clause-param_beyond c = λ m.
    let none : get_or m.1 0 0 ≤ 0 = m.3.each 0 (sort 1) refl in
    let undef : get_or m.1 0 0 ≡ zero = omega (arith, none) in
    let e : not (nat_eq (get_or m.1 0 0) 0) ≡ true = m.4 0 (same (job 0) (job 0)) (omega arith) in
    let f : false ≡ true = rw undef at e in cc
