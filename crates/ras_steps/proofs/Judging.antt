-- A choice has a step or a first fault.
use Rattle.std.proofs.Common.{◌≡◌, ℕ, zero, suc, ◌+◌, ◌<◌, ◌≤◌, Bool, true, false, List, [], ◌∷◌, length, get_or, refl, sym, ◌∙◌, ap, subst, arith, ◌⊎◌, inl, inr, add-one, below_more}
use Rattle.std.specs.Prelude.{slice_get, Option, Some, None, Any, All, IsTrue}
use Rattle.std.specs.List.{list_all}
use Rattle.std.proofs.lemmas.Option.{same_Some, slice_get_within}
use Rattle.std.proofs.lemmas.Bool.{cases_lt, cases_eq, cases_Bool}
use Rattle.ras_logic.specs.declared.ids.SortId.{SortId}
use Rattle.ras_logic.specs.declared.ids.RelId.{RelId}
use Rattle.ras_logic.specs.declared.literal.Literal.{Literal}
use Rattle.ras_logic.specs.declared.raw_db.RawDb.{RawDb}
use Rattle.ras_logic.specs.declared.values.Values.{Values}
use Rattle.ras_logic.specs.Databases.{size_of}
use Rattle.ras_logic.specs.Truth.{AreElements, AllHold, holds}
use Rattle.ras_system.specs.declared.state.State.{State}
use Rattle.ras_system.specs.declared.choice.Choice.{Choice}
use Rattle.ras_system.specs.declared.transition.Transition.{Transition}
use Rattle.ras_system.specs.Systems.{SystemParts}
use Rattle.ras_system.specs.States.{AreRows, rows_of, values_at}
use Rattle.ras_system.specs.Steps.{IsStep, state_after}
use Rattle.ras_steps.specs.declared.step_fault.StepFault.{StepFault}
use Rattle.ras_steps.specs.declared.step_fault.StepFault.TheVariants.{NoTransition, WrongCount, RowOutside, RowRepeated, ValueOutside, GuardFalse, Memory}
use Rattle.ras_steps.specs.StepFaults.{HasCounts, IsRowInside, IsValueInside, Repeats, AreApartBefore, IsFirstNot, GuardHolds, HasStep, IsFaultOf, IsStepFault}
use Rattle.ras_steps.specs.ReplayFaults.{IsMemory}
use Rattle.ras_steps.proofs.Lists.{all_from_tests, tests_from_all}
use Rattle.ras_steps.proofs.Refusals.{rows_from, values_from, inside_past, value_past, fault_of_choice}
use Rattle.ras_steps.proofs.FirstPlaces.{all_or_first}

-- what is so below an end and past it
everywhere : (P : ℕ → Type 0) (n : ℕ) → ((k : ℕ) → k < n → P k) → ((k : ℕ) → n ≤ k → P k) → (k : ℕ) → P k
everywhere P n below past k = go (cases_lt k n)
  where
    go : (k < n) ⊎ (n ≤ k) → P k
    go (inl lt) = below k lt
    go (inr le) = past k le

module _ (d : RawDb) (t : Transition) (s : State) (c : Choice) where
  -- a first fault of the transition that is no want of memory
  abbrev HasFault : Type 0
  HasFault = (fault : StepFault) × IsFaultOf d t s c fault × (IsMemory fault → ⊥)

  judged_counts : HasCounts t c ⊎ (HasCounts t c → ⊥)
  judged_counts = go (cases_eq (length c.rows) (length t.rows)) (cases_eq (length c.values) (length t.params))
    where
      go : (length c.rows ≡ length t.rows) ⊎ (length c.rows ≡ length t.rows → ⊥) → (length c.values ≡ length t.params) ⊎ (length c.values ≡ length t.params → ⊥)
          → HasCounts t c ⊎ (HasCounts t c → ⊥)
      go (inr n) v = inr (λ h. n h.rows)
      go (inl r) (inr n) = inr (λ h. n h.values)
      go (inl r) (inl v) = inl (record { rows = r; values = v })

  judged_row : (k : ℕ) → IsRowInside s t c k ⊎ (IsRowInside s t c k → ⊥)
  judged_row k = go (slice_get t.rows k) refl
    where
      known_row : (r : RelId) → slice_get t.rows k ≡ Some r → (get_or c.rows k 0 < length (rows_of s r)) ⊎ (length (rows_of s r) ≤ get_or c.rows k 0)
          → IsRowInside s t c k ⊎ (IsRowInside s t c k → ⊥)
      known_row r here (inl lt) = inl (λ q there. subst (λ (x : RelId). get_or c.rows k 0 < length (rows_of s x)) (same_Some r q (sym here ∙ there)) lt)
      known_row r here (inr le) = inr (λ inside. let lt = inside r here in omega (arith, lt))

      go : (o : Option RelId) → slice_get t.rows k ≡ o → IsRowInside s t c k ⊎ (IsRowInside s t c k → ⊥)
      go None none = inl (λ q there. absurd (let both = sym none ∙ there in cc))
      go (Some r) here = known_row r here (cases_lt (get_or c.rows k 0) (length (rows_of s r)))

  judged_value : (k : ℕ) → IsValueInside d t c k ⊎ (IsValueInside d t c k → ⊥)
  judged_value k = go (slice_get t.params k) refl
    where
      known_value : (r : SortId) → slice_get t.params k ≡ Some r → (size_of d r < get_or c.values k 0) ⊎ (get_or c.values k 0 ≤ size_of d r)
          → IsValueInside d t c k ⊎ (IsValueInside d t c k → ⊥)
      known_value r here (inl lt) = inr (λ inside. let le = inside r here in omega (arith, le))
      known_value r here (inr le) = inl (λ q there. subst (λ (x : SortId). get_or c.values k 0 ≤ size_of d x) (same_Some r q (sym here ∙ there)) le)

      go : (o : Option SortId) → slice_get t.params k ≡ o → IsValueInside d t c k ⊎ (IsValueInside d t c k → ⊥)
      go None none = inl (λ q there. absurd (let both = sym none ∙ there in cc))
      go (Some r) here = known_value r here (cases_lt (size_of d r) (get_or c.values k 0))

  -- whether two row parameters are one row
  judged_pair : (second first : ℕ) → (Repeats t c first second → ⊥) ⊎ Repeats t c first second
  judged_pair second first = go (cases_lt first second) (slice_get t.rows first) refl (slice_get t.rows second) refl
    where
      both_known : (q r : RelId) → first < second → slice_get t.rows first ≡ Some q → slice_get t.rows second ≡ Some r
          → (q.n ≡ r.n) ⊎ (q.n ≡ r.n → ⊥) → (get_or c.rows first 0 ≡ get_or c.rows second 0) ⊎ (get_or c.rows first 0 ≡ get_or c.rows second 0 → ⊥)
          → (Repeats t c first second → ⊥) ⊎ Repeats t c first second
      both_known q r lt known_q known_r (inr ne) e =
          inl (λ h. ne (ap (λ (x : RelId). x.n) (same_Some q h.relation (sym known_q ∙ h.first_relation) ∙ sym (same_Some r h.relation (sym known_r ∙ h.second_relation)))))
      both_known q r lt known_q known_r (inl same) (inr ne) = inl (λ h. ne h.same)
      both_known q r lt known_q known_r (inl same) (inl e) = inr (record {
        earlier = lt;
        relation = r;
        second_relation = known_r;
        same = e;
        first_relation = known_q ∙ ap (λ (n : ℕ). Some (record { n = n })) same;
      })

      go : (first < second) ⊎ (second ≤ first) → (o : Option RelId) → slice_get t.rows first ≡ o → (p : Option RelId) → slice_get t.rows second ≡ p
          → (Repeats t c first second → ⊥) ⊎ Repeats t c first second
      go (inr le) o e p f = inl (λ h. let lt : first < second = h.earlier in omega (arith, lt))
      go (inl lt) None e p f = inl (λ h. let both = sym e ∙ h.first_relation in cc)
      go (inl lt) (Some q) e None f = inl (λ h. let both = sym f ∙ h.second_relation in cc)
      go (inl lt) (Some q) e (Some r) f = both_known q r lt e f (cases_eq q.n r.n) (cases_eq (get_or c.rows first 0) (get_or c.rows second 0))

  -- the parameter that an earlier one is, if there is one
  judged_repeat : (second n : ℕ) → ((first : ℕ) → first < n → Repeats t c first second → ⊥) ⊎ ((first : ℕ) × Repeats t c first second)
  judged_repeat second zero = inl (λ first lt. absurd (omega arith))
  judged_repeat second (suc n) = go (judged_repeat second n) (judged_pair second n)
    where
      go : ((first : ℕ) → first < n → Repeats t c first second → ⊥) ⊎ ((first : ℕ) × Repeats t c first second) → (Repeats t c n second → ⊥) ⊎ Repeats t c n second
          → ((first : ℕ) → first < suc n → Repeats t c first second → ⊥) ⊎ ((first : ℕ) × Repeats t c first second)
      go (inr found) e = inr found
      go (inl none) (inr here) = inr (n, here)
      go (inl none) (inl not_here) = inl (λ first lt. below_more (λ (k : ℕ). Repeats t c k second → ⊥) n none not_here first (rw add-one lt))

  judged_repeats : (n : ℕ) → AreApartBefore t c n ⊎ ((first second : ℕ) × AreApartBefore t c second × Repeats t c first second)
  judged_repeats zero = inl (λ i j lt. absurd (omega arith))
  judged_repeats (suc n) = go (judged_repeats n) (judged_repeat n n)
    where
      go : AreApartBefore t c n ⊎ ((first second : ℕ) × AreApartBefore t c second × Repeats t c first second)
          → ((first : ℕ) → first < n → Repeats t c first n → ⊥) ⊎ ((first : ℕ) × Repeats t c first n)
          → AreApartBefore t c (suc n) ⊎ ((first second : ℕ) × AreApartBefore t c second × Repeats t c first second)
      go (inr found) e = inr found
      go (inl apart) (inr here) = inr (here.0, n, apart, here.1)
      go (inl apart) (inl none) = inl (λ i j lt again. below_more (λ (k : ℕ). Repeats t c i k → ⊥) n (λ k below. apart i k below) (λ h. none i h.earlier h) j (rw add-one lt) again)

  judged_guard : (v : Values) (guard : List (List Literal)) → Any (AllHold d v) guard ⊎ (Any (AllHold d v) guard → ⊥)
  judged_guard v [] = inr (λ any. let lt = any.2 in omega (arith, lt))
  judged_guard v (disjunct ∷ guard) = go (cases_Bool (list_all (holds d v) disjunct)) (judged_guard v guard)
    where
      later : Any (AllHold d v) guard → Any (AllHold d v) (disjunct ∷ guard)
      later any = (suc any.0, any.1, omega (arith, any.2), any.3, any.4)

      here_or : (k : ℕ) (x : List Literal) → k < length (disjunct ∷ guard) → get_or (disjunct ∷ guard) k x ≡ x → AllHold d v x
          → list_all (holds d v) disjunct ≡ false → (Any (AllHold d v) guard → ⊥) → ⊥
      here_or zero x lt is all fails none = let h = tests_from_all (holds d v) x all in let both = sym h ∙ ap (list_all (holds d v)) (sym is) ∙ fails in cc
      here_or (suc k) x lt is all fails none = none (k, x, omega (arith, lt), is, all)

      go : (list_all (holds d v) disjunct ≡ true) ⊎ (list_all (holds d v) disjunct ≡ false) → Any (AllHold d v) guard ⊎ (Any (AllHold d v) guard → ⊥)
          → Any (AllHold d v) (disjunct ∷ guard) ⊎ (Any (AllHold d v) (disjunct ∷ guard) → ⊥)
      go (inl e) rest = inl (0, disjunct, omega arith, refl, all_from_tests (holds d v) disjunct e)
      go (inr e) (inl any) = inl (later any)
      go (inr e) (inr none) = inr (λ any. here_or any.0 any.1 any.2 any.3 any.4 e none)

  pub judged : HasStep d t s c ⊎ HasFault
  judged = with_counts judged_counts
    where
      with_guard : AreRows s t.rows c.rows → AreElements d t.params c.values → Any (AllHold d (values_at s t.rows c.rows c.values)) t.guard ⊎ (Any (AllHold d (values_at s t.rows c.rows c.values)) t.guard → ⊥)
          → HasStep d t s c ⊎ HasFault
      with_guard rows els (inl guard) = inl (record { rows = rows; params = els; guard = guard })
      with_guard rows els (inr none) = inr (GuardFalse, (rows, els, none), λ h. h)

      with_values : HasCounts t c → AreRows s t.rows c.rows → ((k : ℕ) → k < length t.params → IsValueInside d t c k) ⊎ ((k : ℕ) × IsFirstNot (IsValueInside d t c) (length t.params) k)
          → HasStep d t s c ⊎ HasFault
      with_values counts rows (inr first) = inr (ValueOutside first.0, (counts, rows, first.1), λ h. h)
      with_values counts rows (inl below) =
          with_guard rows (values_from d t c counts (everywhere (IsValueInside d t c) (length t.params) below (value_past d t c))) (judged_guard (values_at s t.rows c.rows c.values) t.guard)

      with_repeats : HasCounts t c → ((k : ℕ) → IsRowInside s t c k) → AreApartBefore t c (length t.rows) ⊎ ((first second : ℕ) × AreApartBefore t c second × Repeats t c first second)
          → HasStep d t s c ⊎ HasFault
      with_repeats counts inside (inr found) = inr (RowRepeated found.0 found.1, (counts, inside, found.2, found.3), λ h. h)
      with_repeats counts inside (inl apart) =
          with_values counts (rows_from s t c counts inside apart) (all_or_first (IsValueInside d t c) judged_value (length t.params))

      with_rows : HasCounts t c → ((k : ℕ) → k < length t.rows → IsRowInside s t c k) ⊎ ((k : ℕ) × IsFirstNot (IsRowInside s t c) (length t.rows) k) → HasStep d t s c ⊎ HasFault
      with_rows counts (inr first) = inr (RowOutside first.0, (counts, first.1), λ h. h)
      with_rows counts (inl below) = with_repeats counts (everywhere (IsRowInside s t c) (length t.rows) below (inside_past s t c)) (judged_repeats (length t.rows))

      with_counts : HasCounts t c ⊎ (HasCounts t c → ⊥) → HasStep d t s c ⊎ HasFault
      with_counts (inr none) = inr (WrongCount, none, λ h. h)
      with_counts (inl counts) = with_rows counts (all_or_first (IsRowInside s t c) judged_row (length t.rows))

-- where there is a step, the state after it
step_of : (system : SystemParts) (d : RawDb) (s : State) (c : Choice) (t : Transition) → slice_get system.transitions c.transition ≡ Some t → HasStep d t s c
    → (next : State) × IsStep system d s c next
step_of system d s c t known has = (state_after d t s c, (t, known, record { rows = has.rows; params = has.params; guard = has.guard; after = refl }))

no_such : {A : Type 0} (xs : List A) (k : ℕ) → slice_get xs k ≡ None → length xs ≤ k
no_such [] k e = omega arith
no_such (x ∷ xs) zero e = absurd (cc)
no_such (x ∷ xs) (suc k) e = let le = no_such xs k e in omega (arith, le)

pub fault_of : (system : SystemParts) (d : RawDb) (s : State) (c : Choice) → ((next : State) → IsStep system d s c next → ⊥)
    → (fault : StepFault) × IsStepFault system d s c fault × (IsMemory fault → ⊥)
fault_of system d s c none = go (slice_get system.transitions c.transition) refl
  where
    by_transition : (t : Transition) → slice_get system.transitions c.transition ≡ Some t
        → HasStep d t s c ⊎ ((fault : StepFault) × IsFaultOf d t s c fault × (IsMemory fault → ⊥)) → (fault : StepFault) × IsStepFault system d s c fault × (IsMemory fault → ⊥)
    by_transition t known (inl has) = let step = step_of system d s c t known has in absurd (none step.0 step.1)
    by_transition t known (inr f) = (f.0, fault_of_choice system d s c t f.0 known f.1, f.2)

    go : (o : Option Transition) → slice_get system.transitions c.transition ≡ o → (fault : StepFault) × IsStepFault system d s c fault × (IsMemory fault → ⊥)
    go None e = (NoTransition, no_such system.transitions c.transition e, λ h. h)
    go (Some t) known = by_transition t known (judged d t s c)

pub step_of_want : (system : SystemParts) (d : RawDb) (s : State) (c : Choice) (fault : StepFault) → IsStepFault system d s c fault → IsMemory fault
    → (next : State) × IsStep system d s c next
step_of_want system d s c NoTransition h m = absurd m
step_of_want system d s c WrongCount h m = absurd m
step_of_want system d s c (RowOutside row) h m = absurd m
step_of_want system d s c (RowRepeated first second) h m = absurd m
step_of_want system d s c (ValueOutside value) h m = absurd m
step_of_want system d s c GuardFalse h m = absurd m
step_of_want system d s c (Memory e) h m = step_of system d s c h.0 h.1 h.2
