-- Where there is no element, the variable is undef after every run; in a larger database a step sets it.
use Rattle.std.proofs.Common.{◌≡◌, ℕ, zero, suc, ◌<◌, ◌≤◌, List, [], ◌∷◌, get_or, refl, sym, subst, arith}
use Rattle.ras_logic.specs.declared.problem.Problem.{Problem}
use Rattle.ras_logic.specs.Databases.{IsDatabase, Extends}
use Rattle.ras_system.specs.declared.state.State.{State}
use Rattle.ras_system.specs.declared.choice.Choice.{Choice}
use Rattle.ras_system.specs.Systems.{IsSystem}
use Rattle.ras_system.specs.States.{IsState, Meets, MeetsAny}
use Rattle.ras_system.specs.Steps.{IsStep}
use Rattle.ras_system.specs.Runs.{IsRun}
use Rattle.ras_extension.specs.Reaching.{Leads, CanReach}
use Rattle.ras_extension.proofs.Truth.{extends-itself}
use Rattle.ras_extension.proofs.States.{next-state}
use Rattle.ras_vectors.proofs.DataTests.{is_database-passed}
use Rattle.ras_vectors.proofs.StateTests.{is_state-passed, may_step-passed}
use Rattle.ras_vectors.specs.Words.{state, choice, sort}
use Rattle.ras_vectors.specs.Small.{plain_shape, one_element, is_set}
use Rattle.ras_core_vectors.specs.Searches.{grow, pick, no_element}
use Rattle.ras_core_vectors.proofs.Cubes.{here, set-here, here-set}

no_element-database : IsDatabase plain_shape.schema no_element
no_element-database = is_database-passed plain_shape.schema no_element refl

one_element-database : IsDatabase plain_shape.schema one_element
one_element-database = is_database-passed plain_shape.schema one_element refl

extends-none : Extends one_element no_element
extends-none = record { sizes = sizes; tables = λ f k lt. absurd (omega arith); constants = refl }
  where
    sizes : (s : ℕ) → get_or no_element.sizes s 0 ≤ get_or one_element.sizes s 0
    sizes zero = omega arith
    sizes (suc s) = omega arith

pick-step : IsStep grow one_element (state (0 ∷ []) []) (choice 0 [] (1 ∷ [])) (state (1 ∷ []) [])
pick-step = (pick, refl, may_step-passed one_element pick (state (0 ∷ []) []) (choice 0 [] (1 ∷ [])) refl)

one-is-set : Meets one_element (state (1 ∷ []) []) is_set
one-is-set = here-set one_element (state (1 ∷ []) []) (λ e. absurd (omega (arith, e)))

pub pick-leads : Leads grow no_element (state (0 ∷ []) []) 0 is_set
pick-leads = record {
  larger = one_element;
  choice = choice 0 [] (1 ∷ []);
  next = state (1 ∷ []) [];
  database = one_element-database;
  extends = extends-none;
  by = refl;
  step = pick-step;
  meets = one-is-set;
}

pub pick-reaches : CanReach grow no_element (state (0 ∷ []) [])
pick-reaches = record {
  larger = one_element;
  choices = choice 0 [] (1 ∷ []) ∷ [];
  last = state (1 ∷ []) [];
  database = one_element-database;
  extends = extends-none;
  run = (state (1 ∷ []) [], pick-step, refl);
  goal = (0, is_set, omega arith, refl, one-is-set);
}

module _ (good : IsSystem grow) where
  run-state : (s : State) (choices : List Choice) (last : State) → IsState plain_shape no_element s → IsRun grow no_element s choices last → IsState plain_shape no_element last
  run-state s [] last st same = subst (IsState plain_shape no_element) (sym same) st
  run-state s (c ∷ choices) last st r =
      run-state r.0 choices last (next-state grow good no_element no_element no_element-database (extends-itself no_element) s c r.0 st r.1) r.2

  pub none-set : (choices : List Choice) (last : State) → IsRun grow no_element (state (0 ∷ []) []) choices last → MeetsAny no_element last (is_set ∷ []) → ⊥
  none-set choices last r a =
      let st = run-state (state (0 ∷ []) []) choices last (is_state-passed plain_shape no_element (state (0 ∷ []) []) refl) r in
      let le = st.vars.each 0 (sort 0) refl in
      one a.0 a.1 a.2 a.3 a.4 (omega (arith, le))
    where
      one : (k : ℕ) (p : Problem) → k < 1 → get_or (is_set ∷ []) k p ≡ p → Meets no_element last p → here last ≡ 0 → ⊥
      one zero p lt is m unset = set-here no_element last (subst (Meets no_element last) (sym is) m) unset
      one (suc k) p lt is m unset = absurd (omega arith)
