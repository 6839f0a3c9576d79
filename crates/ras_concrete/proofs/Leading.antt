-- A step to a state that meets a cube, from a problem of the preimage that is met in a larger database.
use Rattle.std.proofs.Common.{◌≡◌, ℕ, ◌<◌, List, length, sym, ◌∙◌, ap, subst, ◌↔◌, All}
use Rattle.std.specs.Prelude.{slice_get, Some, Result, Ok, Err, IfOk}
use Rattle.std.proofs.lemmas.Option.{same_Some, slice_get_within}
use Rattle.ras_logic.specs.declared.raw_db.RawDb.{RawDb}
use Rattle.ras_logic.specs.declared.problem.Problem.{Problem}
use Rattle.ras_logic.specs.Databases.{IsDatabase, Extends}
use Rattle.ras_logic.specs.Formulas.{Fits, IsCube}
use Rattle.ras_system.specs.declared.state.State.{State}
use Rattle.ras_system.specs.declared.choice.Choice.{Choice}
use Rattle.ras_system.specs.declared.transition.Transition.{Transition}
use Rattle.ras_system.specs.Systems.{SystemParts, IsSystem}
use Rattle.ras_system.specs.States.{IsState, Meets, MeetsAny}
use Rattle.ras_system.specs.Steps.{IsStep, state_after}
use Rattle.ras_system.specs.Preimages.{preimage}
use Rattle.ras_extension.specs.Reaching.{IsStateIn, Leads}
use Rattle.ras_extension.proofs.States.{state-larger}
use Rattle.ras_backwards.specs.Leading.{LeadsIn, LeadsByChoice, choice_by}
use Rattle.ras_concrete.specs.declared.extending.There.{There}
use Rattle.ras_concrete.specs.declared.here.StepHere.{StepHere}
use Rattle.ras_concrete.specs.declared.following.Led.{Led}
use Rattle.ras_concrete.specs.Meeting.{IsMetThere, CannotMeet}
use Rattle.ras_concrete.specs.Concretes.{IsStepHere, IsStepBy, IsLed}

-- what the law of the problems of a preimage says
abbrev pub ProblemLaw : Type 0
ProblemLaw =
    (system : SystemParts) (number : ℕ) (t : Transition) (cube p : Problem) (d : RawDb) (s : State) (place : ℕ) → IsSystem system
    → slice_get system.transitions number ≡ Some t → Fits system.shape cube → IsCube cube → IsState system.shape d s
    → slice_get (preimage t cube) place ≡ Some p → (m : Meets d s p) → LeadsByChoice system d s (choice_by number t m.0 m.1) cube

-- a choice leads to one state
one_step : (system : SystemParts) (d : RawDb) (s : State) (c : Choice) (a b : State) → IsStep system d s c a → IsStep system d s c b → a ≡ b
one_step system d s c a b p q =
    p.2.after ∙ ap (λ (t : Transition). state_after d t s c) (same_Some p.0 q.0 (sym p.1 ∙ q.1)) ∙ sym q.2.after

-- a step in the state's own database
pub led_in_place : (itself : (d : RawDb) → Extends d d) (system : SystemParts) (d : RawDb) (s : State) (number : ℕ) (cube : Problem) (here : StepHere) → IsDatabase system.shape.schema d
    → IsStepHere system d s number cube here → IsLed system d s number cube (record { db = d; choice = here.choice; next = here.next })
led_in_place itself system d s number cube here database is =
    record { database = database; extends = itself d; by = is.by; step = is.step; meets = is.meets }

module _ (system : SystemParts) (number : ℕ) (cube : Problem) (d : RawDb) (s : State) (leads : Leads system d s number cube) where
  known_there : slice_get system.transitions number ≡ Some leads.step.0
  known_there = subst (λ (n : ℕ). slice_get system.transitions n ≡ Some leads.step.0) leads.by leads.step.1

  pub within : number < length system.transitions
  within = slice_get_within system.transitions number leads.step.0 known_there

  pub not_all : IsStateIn system d s → (problems : List Problem)
      → ((e : RawDb) (r : State) → IsState system.shape e r → (LeadsIn system e r number cube ↔ MeetsAny e r problems)) → ¬ All (CannotMeet system.shape d s) problems
  not_all st problems exact none =
      let there = state-larger system.shape leads.larger d s leads.extends st.state in
      let any = (exact leads.larger s there).0 (record { choice = leads.choice; next = leads.next; by = leads.by; step = leads.step; meets = leads.meets }) in
      none any.0 any.1 any.2 leads.larger leads.database leads.extends (subst (Meets leads.larger s) (sym any.3) any.4)

  module _ (law : ProblemLaw) (good : IsSystem system) (fits : Fits system.shape cube) (flat : IsCube cube) (st : IsStateIn system d s)
      (problems : List Problem) (are : (t : Transition) → slice_get system.transitions number ≡ Some t → problems ≡ preimage t cube)
      (place : ℕ) (p : Problem) (at : slice_get problems place ≡ Some p) (there : There) (met : IsMetThere system.shape d s p there) where
    by_choice : LeadsByChoice system there.db s (choice_by number leads.step.0 there.rows there.params) cube
    by_choice =
        law system number leads.step.0 cube p there.db s place good known_there fits flat (state-larger system.shape there.db d s met.extends st.state)
        (subst (λ (ps : List Problem). slice_get ps place ≡ Some p) (are leads.step.0 known_there) at) (there.rows, there.params, met.rows, met.params, met.literals)

    pub has_step : IsStepBy system there.db s number there.rows there.params
    has_step = record { transition = leads.step.0; known = known_there; next = by_choice.next; step = by_choice.step }

    pub is_led : (led : Led) → led.db ≡ there.db → led.choice.transition ≡ number → IsStep system there.db s led.choice led.next
        → ((t : Transition) → slice_get system.transitions number ≡ Some t → led.choice ≡ choice_by number t there.rows there.params) → IsLed system d s number cube led
    is_led led same by step choice =
        let made : IsStep system there.db s (choice_by number leads.step.0 there.rows there.params) led.next =
        subst (λ (c : Choice). IsStep system there.db s c led.next) (choice leads.step.0 known_there) step in
        let one : by_choice.next ≡ led.next =
        one_step system there.db s (choice_by number leads.step.0 there.rows there.params) by_choice.next led.next by_choice.step made in
        record {
          database = subst (IsDatabase system.shape.schema) (sym same) met.database;
          extends = subst (λ (e : RawDb). Extends e d) (sym same) met.extends;
          by = by;
          step = subst (λ (e : RawDb). IsStep system e s led.choice led.next) (sym same) step;
          meets = subst (λ (e : RawDb). Meets e led.next cube) (sym same) (subst (λ (n : State). Meets there.db n cube) one by_choice.meets);
        }

    pub all_led : {E : Type 0} (r : Result Led E) → IfOk r (λ led. led.db ≡ there.db) → IfOk r (λ led. led.choice.transition ≡ number)
        → IfOk r (λ led. IsStep system there.db s led.choice led.next)
        → IfOk r (λ led. (t : Transition) → slice_get system.transitions number ≡ Some t → led.choice ≡ choice_by number t there.rows there.params)
        → IfOk r (IsLed system d s number cube)
    all_led (Ok led) same by step choice = is_led led same by step choice
    all_led (Err e) same by step choice = tt
