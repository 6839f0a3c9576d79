-- Tests of states and steps, and what it means that they pass. A step that the test refuses is none.
use Rattle.std.proofs.Common.{◌≡◌, ℕ, Bool, true, false, List, [], length, get_or, refl, sym, ◌∙◌, ap, subst, nat_eq, nat_lt, eq-eqb}
use Rattle.std.specs.Prelude.{slice_get, Option, Some, All, ◌&&◌, nat_le}
use Rattle.std.specs.List.{list_any, list_all}
use Rattle.std.proofs.lemmas.Option.{slice_get-get_or}
use Rattle.std.proofs.lemmas.List.Sums.{AllPass-from_list_all, list_all-from_AllPass}
use Rattle.std.proofs.lemmas.List.Folds.{Any-from_list_any, list_any-from_Any}
use Rattle.std.proofs.lemmas.Bool.{eqb-true, ltb-true, lt-ltb, le-leb, and_parts, and_from}
use Rattle.ras_logic.specs.declared.ids.SortId.{SortId}
use Rattle.ras_logic.specs.declared.ids.RelId.{RelId}
use Rattle.ras_logic.specs.declared.ids.ConstId.{ConstId}
use Rattle.ras_logic.specs.declared.literal.Literal.{Literal}
use Rattle.ras_logic.specs.declared.problem.Problem.{Problem}
use Rattle.ras_logic.specs.declared.raw_db.RawDb.{RawDb}
use Rattle.ras_logic.specs.Shapes.{ShapeParts}
use Rattle.ras_logic.specs.Databases.{size_of}
use Rattle.ras_logic.specs.Truth.{holds, AreElements, IsRow}
use Rattle.ras_system.specs.declared.transition.Transition.{Transition}
use Rattle.ras_system.specs.declared.state.State.{State}
use Rattle.ras_system.specs.declared.choice.Choice.{Choice}
use Rattle.ras_system.specs.Systems.{SystemParts}
use Rattle.ras_system.specs.States.{rows_of, IsState, IsInitial, initial_value, AreRows, values_at, Meets}
use Rattle.ras_system.specs.Steps.{state_after, StepBy, IsStep}
use Rattle.ras_vectors.proofs.ListTests.{each, each-at, each-from, list_all-All, are_apart, are_apart-different, are_apart-from}
use Rattle.ras_vectors.proofs.DataTests.{are_elements, are_elements-passed, all_hold}

abbrev pub is_state : ShapeParts → RawDb → State → Bool
is_state shape d s = are_elements d shape.vars s.vars && (nat_eq (length s.relations) (length shape.relations)
    && each (λ k columns. list_all (are_elements d columns) (get_or s.relations k [])) shape.relations)

pub is_state-passed : (shape : ShapeParts) (d : RawDb) (s : State) → is_state shape d s ≡ true → IsState shape d s
is_state-passed shape d s h =
    let rows : ℕ → List SortId → Bool = λ k columns. list_all (are_elements d columns) (get_or s.relations k []) in
    let t = and_parts (are_elements d shape.vars s.vars) (nat_eq (length s.relations) (length shape.relations) && each rows shape.relations) h in
    let u = and_parts (nat_eq (length s.relations) (length shape.relations)) (each rows shape.relations) t.1 in record {
      vars = are_elements-passed d shape.vars s.vars t.0;
      as_many = eqb-true (length s.relations) (length shape.relations) u.0;
      rows = λ r lt. list_all-All (are_elements d (get_or shape.relations r.n [])) (IsRow shape d r) (are_elements-passed d (get_or shape.relations r.n []))
          (rows_of s r) (each-at rows shape.relations u.1 r.n (get_or shape.relations r.n []) (slice_get-get_or shape.relations r.n [] lt));
    }

abbrev pub is_initial : SystemParts → RawDb → State → Bool
is_initial system d s = is_state system.shape d s && (each (λ k o. nat_eq (get_or s.vars k 0) (initial_value d o)) system.initial
    && list_all (list_all (list_all (λ x. nat_eq x 0))) s.relations)

pub is_initial-passed : (system : SystemParts) (d : RawDb) (s : State) → is_initial system d s ≡ true → IsInitial system d s
is_initial-passed system d s h =
    let vars : ℕ → Option ConstId → Bool = λ k o. nat_eq (get_or s.vars k 0) (initial_value d o) in
    let cells : Bool = list_all (list_all (list_all (λ x. nat_eq x 0))) s.relations in
    let t = and_parts (is_state system.shape d s) (each vars system.initial && cells) h in
    let u = and_parts (each vars system.initial) cells t.1 in record {
      state = is_state-passed system.shape d s t.0;
      vars = λ k o e. eqb-true (get_or s.vars k 0) (initial_value d o) (each-at vars system.initial u.0 k o e);
      cells = list_all-All (list_all (list_all (λ x. nat_eq x 0))) (All (All (λ x. x ≡ 0)))
          (list_all-All (list_all (λ x. nat_eq x 0)) (All (λ x. x ≡ 0)) (list_all-All (λ x. nat_eq x 0) (λ x. x ≡ 0) (λ x e. eqb-true x 0 e))) s.relations u.1;
    }

abbrev are_rows : State → List RelId → List ℕ → Bool
are_rows s relations chosen = nat_eq (length chosen) (length relations)
    && (each (λ k (r : RelId). nat_lt (get_or chosen k 0) (length (rows_of s r))) relations
    && are_apart (λ (r : RelId). r.n) (λ j. get_or chosen j 0) relations)

are_rows-passed : (s : State) (relations : List RelId) (chosen : List ℕ) → are_rows s relations chosen ≡ true → AreRows s relations chosen
are_rows-passed s relations chosen h =
    let within : ℕ → RelId → Bool = λ k r. nat_lt (get_or chosen k 0) (length (rows_of s r)) in
    let apart : Bool = are_apart (λ (r : RelId). r.n) (λ j. get_or chosen j 0) relations in
    let t = and_parts (nat_eq (length chosen) (length relations)) (each within relations && apart) h in
    let u = and_parts (each within relations) apart t.1 in record {
      as_many = eqb-true (length chosen) (length relations) t.0;
      each = λ k r e. ltb-true (get_or chosen k 0) (length (rows_of s r)) (each-at within relations u.0 k r e);
      different = λ j k r ej ek e. are_apart-different (λ (r : RelId). r.n) (λ j. get_or chosen j 0) relations u.1 j k r r ej ek refl e;
    }

abbrev pub meets : RawDb → State → Problem → List ℕ → List ℕ → Bool
meets d s p chosen params = are_rows s p.rows chosen && (are_elements d p.params params && list_all (holds d (values_at s p.rows chosen params)) p.literals)

pub meets-passed : (d : RawDb) (s : State) (p : Problem) (chosen params : List ℕ) → meets d s p chosen params ≡ true → Meets d s p
meets-passed d s p chosen params h =
    let all : Bool = list_all (holds d (values_at s p.rows chosen params)) p.literals in
    let t = and_parts (are_rows s p.rows chosen) (are_elements d p.params params && all) h in
    let u = and_parts (are_elements d p.params params) all t.1 in
    (chosen, params, are_rows-passed s p.rows chosen t.0, are_elements-passed d p.params params u.0, all_hold d (values_at s p.rows chosen params) p.literals u.1)

abbrev pub may_step : RawDb → Transition → State → Choice → Bool
may_step d t s c = are_rows s t.rows c.rows && (are_elements d t.params c.values && list_any (list_all (holds d (values_at s t.rows c.rows c.values))) t.guard)

pub may_step-passed : (d : RawDb) (t : Transition) (s : State) (c : Choice) → may_step d t s c ≡ true → StepBy d t s c (state_after d t s c)
may_step-passed d t s c h =
    let test : List Literal → Bool = list_all (holds d (values_at s t.rows c.rows c.values)) in
    let a = and_parts (are_rows s t.rows c.rows) (are_elements d t.params c.values && list_any test t.guard) h in
    let b = and_parts (are_elements d t.params c.values) (list_any test t.guard) a.1 in
    let g = Any-from_list_any test t.guard b.1 in record {
      rows = are_rows-passed s t.rows c.rows a.0;
      params = are_elements-passed d t.params c.values b.0;
      guard = (g.0, g.1, g.2, g.3, AllPass-from_list_all (holds d (values_at s t.rows c.rows c.values)) g.1 g.4);
      after = refl;
    }

-- what a step is passes the test
are_elements-from : (d : RawDb) (sorts : List SortId) (numbers : List ℕ) → AreElements d sorts numbers → are_elements d sorts numbers ≡ true
are_elements-from d sorts numbers h =
    let within : ℕ → SortId → Bool = λ k s. nat_le (get_or numbers k 0) (size_of d s) in
    and_from (nat_eq (length numbers) (length sorts)) (each within sorts) (eq-eqb (length numbers) (length sorts) h.as_many)
    (each-from within sorts (λ k s e. le-leb (get_or numbers k 0) (size_of d s) (h.each k s e)))

are_rows-from : (s : State) (relations : List RelId) (chosen : List ℕ) → AreRows s relations chosen → are_rows s relations chosen ≡ true
are_rows-from s relations chosen h =
    let within : ℕ → RelId → Bool = λ k r. nat_lt (get_or chosen k 0) (length (rows_of s r)) in
    let apart : Bool = are_apart (λ (r : RelId). r.n) (λ j. get_or chosen j 0) relations in
    and_from (nat_eq (length chosen) (length relations)) (each within relations && apart) (eq-eqb (length chosen) (length relations) h.as_many)
    (and_from (each within relations) apart
    (each-from within relations (λ k r e. lt-ltb (get_or chosen k 0) (length (rows_of s r)) (h.each k r e)))
    (are_apart-from (λ (r : RelId). r.n) (λ j. get_or chosen j 0) relations
    (λ j k x y ej ek same e. h.different j k x ej (ek ∙ ap (λ (n : ℕ). Some (record { n = n })) (sym same)) e)))

may_step-from : (d : RawDb) (t : Transition) (s next : State) (c : Choice) → StepBy d t s c next → may_step d t s c ≡ true
may_step-from d t s next c h =
    let test : List Literal → Bool = list_all (holds d (values_at s t.rows c.rows c.values)) in
    let g = h.guard in
    and_from (are_rows s t.rows c.rows) (are_elements d t.params c.values && list_any test t.guard) (are_rows-from s t.rows c.rows h.rows)
    (and_from (are_elements d t.params c.values) (list_any test t.guard) (are_elements-from d t.params c.values h.params)
    (list_any-from_Any test t.guard (g.0, g.1, g.2, g.3, list_all-from_AllPass (holds d (values_at s t.rows c.rows c.values)) g.1 g.4)))

by_named : (system : SystemParts) (d : RawDb) (s : State) (c : Choice) (next : State) (t : Transition) → slice_get system.transitions c.transition ≡ Some t
    → IsStep system d s c next → StepBy d t s c next
by_named system d s c next t known step = subst (λ (q : Transition). StepBy d q s c next) (same (sym step.1 ∙ known)) step.2
  where
    same : {x y : Transition} → Some x ≡ Some y → x ≡ y
    same e = cc

-- a choice that the test refuses is no step, and a step leads to one state alone
pub no_step : (system : SystemParts) (d : RawDb) (s : State) (c : Choice) (t : Transition) → slice_get system.transitions c.transition ≡ Some t → may_step d t s c ≡ false
    → (next : State) → IsStep system d s c next → ⊥
no_step system d s c t known fails next step =
    let passes : may_step d t s c ≡ true = may_step-from d t s next c (by_named system d s c next t known step) in cc

pub only_state : (system : SystemParts) (d : RawDb) (s : State) (c : Choice) (t : Transition) → slice_get system.transitions c.transition ≡ Some t
    → (next : State) → IsStep system d s c next → next ≡ state_after d t s c
only_state system d s c t known next step = (by_named system d s c next t known step).after
