-- Where the states of the systems with one transition lead.
use Rattle.std.proofs.Common.{◌≡◌, ℕ, zero, suc, ◌<◌, List, [], ◌∷◌, length, get_or, refl, sym, ◌∙◌, ap, subst, arith, inl, inr}
use Rattle.std.specs.Prelude.{slice_get, Some, Any, IsTrue, nat_eq}
use Rattle.std.proofs.Common.{true}
use Rattle.std.proofs.lemmas.Bool.{eqb-true, eq-eqb}
use Rattle.std.proofs.lemmas.List.Elements.{All-head}
use Rattle.ras_logic.specs.declared.raw_db.RawDb.{RawDb}
use Rattle.ras_logic.specs.declared.literal.Literal.{Literal}
use Rattle.ras_logic.specs.declared.problem.Problem.{Problem}
use Rattle.ras_logic.specs.declared.values.Values.{Values}
use Rattle.ras_logic.specs.Databases.{IsDatabase, constant_of}
use Rattle.ras_logic.specs.Truth.{AllHold, holds}
use Rattle.ras_system.specs.declared.state.State.{State}
use Rattle.ras_system.specs.declared.choice.Choice.{Choice}
use Rattle.ras_system.specs.declared.transition.Transition.{Transition}
use Rattle.ras_system.specs.Systems.{SystemParts}
use Rattle.ras_system.specs.States.{Meets, values_at}
use Rattle.ras_system.specs.Steps.{StepBy, written, state_after, term_for_var}
use Rattle.ras_extension.specs.Reaching.{IsStateOf, Leads, CanReach}
use Rattle.ras_extension.proofs.Truth.{extends-itself}
use Rattle.ras_core.specs.CoreStates.{EntryParts}
use Rattle.ras_core.specs.Covered.{IsCovered}
use Rattle.ras_core.specs.Admissible.{AllLead, IsTight, without}
use Rattle.ras_vectors.proofs.DataTests.{is_database-passed}
use Rattle.ras_vectors.proofs.StateTests.{may_step-passed}
use Rattle.ras_vectors.proofs.ListTests.{not-true}
use Rattle.ras_vectors.specs.Words.{cube, same, apart, state, choice}
use Rattle.ras_vectors.specs.Small.{two, three_elements, x, a, b, is_b, is_c, b_to_c}
use Rattle.ras_core_vectors.specs.Searches.{two_last, away, to_c, not_a, literal_too_many}
use Rattle.ras_core_vectors.proofs.Cubes.{here, no_rows, no_elements, b-here, b-holds, c-here, here-c, no-a-here, not_a-holds, here-not-a, a_is_not_c, b_is_not_c, state_of}

-- after either step the variable is c
written-c : (d : RawDb) (v : Values) (xs : List ℕ) → length xs ≡ 1 → get_or (written d v (term_for_var b_to_c.updates) xs) 0 0 ≡ constant_of d 2
written-c d v [] e = absurd (cc)
written-c d v (y ∷ xs) e = refl

-- the literal of a guard with one disjunct of one literal holds
guard-holds : (e : RawDb) (v : Values) (l : Literal) → Any (AllHold e v) ((l ∷ []) ∷ []) → holds e v l ≡ true
guard-holds e v l (zero, ls, lt, is, h) = All-head (λ (q : Literal). IsTrue (holds e v q)) l [] (subst (AllHold e v) (sym is) h)
guard-holds e v l (suc k, ls, lt, is, h) = absurd (omega arith)

-- a step of the only transition
record OneStep (t : Transition) (d : RawDb) (s : State) (transition : ℕ) (target : Problem) : Type 0 where
  larger : RawDb
  choice : Choice
  next : State
  first : transition ≡ 0
  database : IsDatabase two.shape.schema larger
  constants : larger.constants ≡ d.constants
  step : StepBy larger t s choice next
  meets : Meets larger next target

module _ (t : Transition) (goals : List Problem) where
  abbrev System : SystemParts
  System = record two { transitions = t ∷ []; goals = goals }

  only : (k : ℕ) (u : Transition) → slice_get (t ∷ []) k ≡ Some u → (k ≡ 0) × (u ≡ t)
  only zero u h = (refl, cc)
  only (suc k) u h = absurd (cc)

  the_step : (d : RawDb) (s : State) (transition : ℕ) (target : Problem) → Leads System d s transition target → OneStep t d s transition target
  the_step d s transition target l = let o = only l.choice.transition l.step.0 l.step.1 in record {
    larger = l.larger;
    choice = l.choice;
    next = l.next;
    first = sym l.by ∙ o.0;
    database = l.database;
    constants = l.extends.constants;
    step = subst (λ (u : Transition). StepBy l.larger u s l.choice l.next) o.1 l.step.2;
    meets = l.meets;
  }

-- what is b leads to c, and nothing else leads anywhere
pub b-leads : AllLead two 0 is_c is_b
b-leads d s is = record {
  larger = d;
  choice = choice 0 [] [];
  next = state_after d b_to_c s (choice 0 [] []);
  database = is.state.database;
  extends = extends-itself d;
  by = refl;
  step = (
    b_to_c,
    refl,
    record {
      rows = no_rows s;
      params = no_elements d;
      guard = (0, same x b ∷ [], omega arith, refl, b-holds d s (b-here d s is.meets));
      after = refl;
    },
  );
  meets = here-c d (state_after d b_to_c s (choice 0 [] [])) (written-c d (values_at s [] [] []) s.vars is.state.state.vars.as_many);
}

pub leads-b : (d : RawDb) (s : State) (transition : ℕ) (target : Problem) → Leads two d s transition target → here s ≡ constant_of d 1
leads-b d s transition target l =
    let o = the_step b_to_c two.goals d s transition target l in
    eqb-true (here s) (constant_of o.larger 1) (guard-holds o.larger (values_at s [] o.choice.rows o.choice.values) (same x b) o.step.guard) ∙ ap (λ (cs : List ℕ). get_or cs 1 0) o.constants

-- nothing leads to b
pub none-to-b : (d : RawDb) (s : State) (transition : ℕ) → length s.vars ≡ 1 → Leads two d s transition is_b → ⊥
none-to-b d s transition one l =
    let o = the_step b_to_c two.goals d s transition is_b l in
    let now : here o.next ≡ constant_of o.larger 2 =
    subst (λ (n : State). here n ≡ constant_of o.larger 2) (sym o.step.after) (written-c o.larger (values_at s [] o.choice.rows o.choice.values) s.vars one) in
    b_is_not_c o.larger o.database (sym (b-here o.larger o.next o.meets) ∙ now)

pub first-step : (d : RawDb) (s : State) (transition : ℕ) (target : Problem) → Leads two d s transition target → transition ≡ 0
first-step d s transition target l = let o = the_step b_to_c two.goals d s transition target l in o.first

-- what is not a leads to c, which is not a; and nothing else leads anywhere
pub away-leads : AllLead away 0 not_a not_a
away-leads d s is = record {
  larger = d;
  choice = choice 0 [] [];
  next = state_after d to_c s (choice 0 [] []);
  database = is.state.database;
  extends = extends-itself d;
  by = refl;
  step = (
    to_c,
    refl,
    record {
      rows = no_rows s;
      params = no_elements d;
      guard = (0, apart x a ∷ [], omega arith, refl, not_a-holds d s (no-a-here d s is.meets));
      after = refl;
    },
  );
  meets = here-not-a d (state_after d to_c s (choice 0 [] []))
      (λ e. a_is_not_c d is.state.database (sym e ∙ written-c d (values_at s [] [] []) s.vars is.state.state.vars.as_many));
}

pub leads-not_a : (d : RawDb) (s : State) (transition : ℕ) (target : Problem) → Leads away d s transition target → Meets d s not_a
leads-not_a d s transition target l =
    let o = the_step to_c away.goals d s transition target l in
    here-not-a d s (λ e. not-true (nat_eq (here s) (constant_of o.larger 0)) (guard-holds o.larger (values_at s [] o.choice.rows o.choice.values) (apart x a) o.step.guard)
    (eq-eqb (here s) (constant_of o.larger 0) (e ∙ sym (ap (λ (cs : List ℕ). get_or cs 0 0) o.constants))))

pub b-tight : IsTight two 0 is_c is_b
b-tight = record { rows = λ t known. omega arith; needed = needed }
  where
    needed : (k : ℕ) → k < 1 → (d : RawDb) × (s : State) × IsStateOf two (without k is_b) d s × ¬ Leads two d s 0 is_c
    needed zero lt = (three_elements, state (1 ∷ []) [], state_of two three_elements 1 (cube [] []) refl refl refl, λ l. let e : 1 ≡ 2 = leads-b three_elements (state (1 ∷ []) []) 0 is_c l in absurd (omega (arith, e)))
    needed (suc k) lt = absurd (omega arith)

-- what is b leads to c also where it is said that it is not c
pub superfluous : IsTight two 0 is_c literal_too_many → ⊥
superfluous t = let n = t.needed 1 (omega arith) in n.3 (b-leads n.0 n.1 n.2)

pub can-reach : CanReach two three_elements (state (2 ∷ []) [])
can-reach = record {
  larger = three_elements;
  choices = choice 0 [] [] ∷ [];
  last = state (3 ∷ []) [];
  database = is_database-passed two.shape.schema three_elements refl;
  extends = extends-itself three_elements;
  run = (state (3 ∷ []) [], (b_to_c, refl, may_step-passed three_elements b_to_c (state (2 ∷ []) []) (choice 0 [] []) refl), refl);
  goal = (0, is_c, omega arith, refl, here-c three_elements (state (3 ∷ []) []) refl);
}

-- a state that is a meets no entry of the search
pub a-not-covered : IsCovered two_last three_elements (state (1 ∷ []) []) → ⊥
a-not-covered (inr a) = absurd (omega (arith, a.2))
a-not-covered (inl a) = one a.0 a.1 a.2 a.3 a.4.1
  where
    one : (k : ℕ) (e : EntryParts) → k < 2 → get_or two_last.entries k e ≡ e → Meets three_elements (state (1 ∷ []) []) e.cube → ⊥
    one zero e lt is m = let q : 1 ≡ 3 = c-here three_elements (state (1 ∷ []) []) (subst (λ (x : EntryParts). Meets three_elements (state (1 ∷ []) []) x.cube) (sym is) m) in absurd (omega (arith, q))
    one (suc zero) e lt is m = let q : 1 ≡ 2 = b-here three_elements (state (1 ∷ []) []) (subst (λ (x : EntryParts). Meets three_elements (state (1 ∷ []) []) x.cube) (sym is) m) in absurd (omega (arith, q))
    one (suc (suc k)) e lt is m = absurd (omega arith)
