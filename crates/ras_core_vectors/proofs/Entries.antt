-- The entries of the searches: each is admissible where it is admitted, and worked out where it is done.
use Rattle.std.proofs.Common.{◌≡◌, ℕ, zero, suc, [], ◌∷◌, refl, sym, ◌∙◌, ap, subst, arith, inl}
use Rattle.std.specs.Prelude.{Option, Some}
use Rattle.std.proofs.lemmas.List.Elements.{All-nil, All-cons}
use Rattle.ras_logic.specs.declared.raw_db.RawDb.{RawDb}
use Rattle.ras_logic.specs.declared.problem.Problem.{Problem}
use Rattle.ras_system.specs.declared.state.State.{State}
use Rattle.ras_system.specs.States.{Meets, MeetsAny}
use Rattle.ras_extension.specs.Reaching.{Leads}
use Rattle.ras_core.specs.declared.origin.Origin.TheVariants.{Goal, Step}
use Rattle.ras_core.specs.CoreStates.{EntryParts, IsKeptEntry}
use Rattle.ras_core.specs.Admissible.{IsTight, IsAdmissible, SomeIsInitial, LeadsToEntry}
use Rattle.ras_core.specs.Events.{IsWorkedOut, IsInside, IsReasoned, AreKept}
use Rattle.ras_vectors.proofs.DataTests.{is_database-passed}
use Rattle.ras_vectors.proofs.StateTests.{is_initial-passed, meets-passed}
use Rattle.ras_vectors.specs.Words.{state}
use Rattle.ras_vectors.specs.Small.{still, two, unset_is_unsafe, one_element, three_elements, is_set, is_b, is_c}
use Rattle.ras_core_vectors.specs.Searches.{away, away_at, not_a, is_unset}
use Rattle.ras_core_vectors.proofs.Cubes.{c-here, here-b, here-not-a, a_is_not_c, set-start, b-start, c-start, not_a-start, state_of, formula_of}
use Rattle.ras_core_vectors.proofs.Leading.{b-leads, leads-b, none-to-b, b-tight, away-leads, leads-not_a}

-- the entry that is read
pub entry-is : (o e : EntryParts) → ◌≡◌ {A = Option EntryParts} (Some o) (Some e) → e ≡ o
entry-is o e h = cc

none-met : (d : RawDb) (s : State) → MeetsAny d s [] → ⊥
none-met d s a = absurd (omega (arith, a.2))

-- a state that does not meet the goal does not meet the entries, which are the goal alone
not-c-alone : (n : ℕ) → (n ≡ 3 → ⊥) → MeetsAny three_elements (state (n ∷ []) []) (is_c ∷ []) → ⊥
not-c-alone n other (zero, p, lt, is, m) = other (c-here three_elements (state (n ∷ []) []) (subst (Meets three_elements (state (n ∷ []) [])) (sym is) m))
not-c-alone n other (suc k, p, lt, is, m) = absurd (omega arith)

pub still-admissible : IsAdmissible still [] [] (Goal 0) is_set
still-admissible = record {
  comes = refl;
  tight = tt;
  not_initial = set-start;
  has_new = record { d = one_element; state = state (1 ∷ []) []; is_state = state_of still one_element 1 is_set refl refl refl; no_other = none-met _ _; no_base = none-met _ _ };
}

pub c-admissible : IsAdmissible two [] [] (Goal 0) is_c
c-admissible = record {
  comes = refl;
  tight = tt;
  not_initial = c-start two.transitions two.goals;
  has_new = record { d = three_elements; state = state (3 ∷ []) []; is_state = state_of two three_elements 3 is_c refl refl refl; no_other = none-met _ _; no_base = none-met _ _ };
}

pub b-admissible : IsAdmissible two (is_c ∷ []) [] (Step 0 0) is_b
b-admissible = record {
  comes = record { formula = formula_of two is_b refl refl; target = is_c; known = refl; leads = b-leads };
  tight = λ target known. let e : is_c ≡ target = cc in subst (λ (p : Problem). IsTight two 0 p is_b) e b-tight;
  not_initial = b-start two.transitions two.goals;
  has_new = record {
    d = three_elements;
    state = state (2 ∷ []) [];
    is_state = state_of two three_elements 2 is_b refl refl refl;
    no_other = not-c-alone 2 (λ e. absurd (omega (arith, e)));
    no_base = none-met _ _;
  };
}

pub away-c-admissible : IsAdmissible away [] [] (Goal 0) is_c
away-c-admissible = record {
  comes = refl;
  tight = tt;
  not_initial = c-start away.transitions away.goals;
  has_new = record { d = three_elements; state = state (3 ∷ []) []; is_state = state_of away three_elements 3 is_c refl refl refl; no_other = none-met _ _; no_base = none-met _ _ };
}

pub not_a-admissible : IsAdmissible away (is_c ∷ []) [] (Goal 1) not_a
not_a-admissible = record {
  comes = refl;
  tight = tt;
  not_initial = not_a-start away.transitions away.goals;
  has_new = record {
    d = three_elements;
    state = state (0 ∷ []) [];
    is_state = state_of away three_elements 0 not_a refl refl refl;
    no_other = not-c-alone 0 (λ e. absurd (omega (arith, e)));
    no_base = none-met _ _;
  };
}

pub unset-initial : SomeIsInitial unset_is_unsafe is_unset
unset-initial = record {
  d = one_element;
  state = state (0 ∷ []) [];
  database = is_database-passed unset_is_unsafe.shape.schema one_element refl;
  initial = is_initial-passed unset_is_unsafe one_element (state (0 ∷ []) []) refl;
  meets = meets-passed one_element (state (0 ∷ []) []) is_unset [] [] refl;
}

-- in the search that drops and skips

pub c-inside : IsInside away (away_at 2) 0 1
c-inside inner outer is_inner is_outer d s is =
    let inner_is : is_c ≡ inner.cube = ap (λ (e : EntryParts). e.cube) (sym (entry-is _ inner is_inner)) in
    let outer_is : not_a ≡ outer.cube = ap (λ (e : EntryParts). e.cube) (sym (entry-is _ outer is_outer)) in
    let now = c-here d s (subst (Meets d s) (sym inner_is) is.meets) in
    subst (Meets d s) outer_is (here-not-a d s (λ e. a_is_not_c d is.state.database (sym e ∙ now)))

pub not_a-comes : LeadsToEntry away (is_c ∷ not_a ∷ []) 1 0 not_a
not_a-comes = record { formula = formula_of away not_a refl refl; target = not_a; known = refl; leads = away-leads }

pub not_a-reasoned : IsReasoned away (away_at 6) not_a (1 ∷ [])
not_a-reasoned d s is = inl (0, 1, omega arith, refl, (_, refl, is.meets))

pub one-kept : AreKept (away_at 6) (1 ∷ [])
one-kept = record { each = All-cons (λ (r : ℕ). (e : EntryParts) × IsKeptEntry (away_at 6) r e) 1 [] (_, (refl, refl)) (All-nil (λ (r : ℕ). (e : EntryParts) × IsKeptEntry (away_at 6) r e)) }

-- what leads into an entry is among its submissions

pub still-worked : (e : EntryParts) → IsWorkedOut still e
still-worked e d s transition is l = absurd (let k = l.step.1 in cc)

pub c-worked : (e : EntryParts) → e.submissions ≡ is_b ∷ [] → IsWorkedOut two e
c-worked e submissions_are d s transition is l =
    subst (MeetsAny d s) (sym submissions_are) (0, is_b, omega arith, refl, here-b d s (leads-b d s transition e.cube l))

pub b-worked : (e : EntryParts) → e.cube ≡ is_b → IsWorkedOut two e
b-worked e cube_is d s transition is l = absurd (none-to-b d s transition is.state.vars.as_many (subst (Leads two d s transition) cube_is l))

pub not_a-worked : (e : EntryParts) → e.submissions ≡ not_a ∷ [] → IsWorkedOut away e
not_a-worked e submissions_are d s transition is l =
    subst (MeetsAny d s) (sym submissions_are) (0, not_a, omega arith, refl, leads-not_a d s transition e.cube l)
