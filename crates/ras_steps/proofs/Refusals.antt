-- The parts of a choice that is refused, and of one that is not.
use Rattle.std.proofs.Common.{◌≡◌, ℕ, ◌<◌, ◌≤◌, List, length, get_or, refl, sym, ◌∙◌, subst, arith, ◌⊎◌, inl, inr}
use Rattle.std.specs.Prelude.{slice_get, Some}
use Rattle.std.proofs.lemmas.Option.{slice_get_within, get_or_from_slice_get, slice_get-get_or}
use Rattle.std.proofs.lemmas.Bool.{cases_order}
use Rattle.ras_logic.specs.declared.ids.RelId.{RelId}
use Rattle.ras_logic.specs.declared.ids.SortId.{SortId}
use Rattle.ras_logic.specs.declared.raw_db.RawDb.{RawDb}
use Rattle.ras_logic.specs.Databases.{IsElement}
use Rattle.ras_logic.specs.Truth.{AreElements}
use Rattle.ras_system.specs.declared.state.State.{State}
use Rattle.ras_system.specs.declared.choice.Choice.{Choice}
use Rattle.ras_system.specs.declared.transition.Transition.{Transition}
use Rattle.ras_system.specs.Systems.{SystemParts}
use Rattle.ras_system.specs.States.{AreRows, rows_of}
use Rattle.ras_steps.specs.declared.step_fault.StepFault.{StepFault}
use Rattle.ras_steps.specs.declared.step_fault.StepFault.TheVariants.{NoTransition, WrongCount, RowOutside, RowRepeated, ValueOutside, GuardFalse, Memory}
use Rattle.ras_steps.specs.StepFaults.{HasCounts, IsRowInside, IsValueInside, Repeats, AreApartBefore, IsFaultOf, IsStepFault}

-- rows of their relations, no two of them one
pub rows_from : (s : State) (t : Transition) (c : Choice) → HasCounts t c → ((k : ℕ) → IsRowInside s t c k) → AreApartBefore t c (length t.rows) → AreRows s t.rows c.rows
rows_from s t c counts inside apart = record {
  as_many = counts.rows;
  each = inside;
  different = λ j k r known_j known_k same. go j k r known_j known_k same (cases_order j k);
}
  where
    go : (j k : ℕ) (r : RelId) → slice_get t.rows j ≡ Some r → slice_get t.rows k ≡ Some r → get_or c.rows j 0 ≡ get_or c.rows k 0
        → (j ≡ k) ⊎ ((j < k) ⊎ (k < j)) → j ≡ k
    go j k r known_j known_k same (inl e) = e
    go j k r known_j known_k same (inr (inl lt)) = absurd (apart j k (slice_get_within t.rows k r known_k)
        (record { earlier = lt; relation = r; first_relation = known_j; second_relation = known_k; same = same }))
    go j k r known_j known_k same (inr (inr lt)) = absurd (apart k j (slice_get_within t.rows j r known_j)
        (record { earlier = lt; relation = r; first_relation = known_k; second_relation = known_j; same = sym same }))

pub values_from : (d : RawDb) (t : Transition) (c : Choice) → HasCounts t c → ((k : ℕ) → IsValueInside d t c k) → AreElements d t.params c.values
values_from d t c counts inside = record { as_many = counts.values; each = inside }

-- a place that is read
pub inside_at : (s : State) (t : Transition) (c : Choice) (k : ℕ) (r : RelId) → k < length t.rows → get_or c.rows k 0 < length (rows_of s (get_or t.rows k r)) → IsRowInside s t c k
inside_at s t c k r lt below = λ q known. subst (λ (x : RelId). get_or c.rows k 0 < length (rows_of s x)) (get_or_from_slice_get t.rows k q r known) below

pub outside_at : (s : State) (t : Transition) (c : Choice) (k : ℕ) (r : RelId) → k < length t.rows → length (rows_of s (get_or t.rows k r)) ≤ get_or c.rows k 0 → IsRowInside s t c k → ⊥
outside_at s t c k r lt above inside = let below = inside (get_or t.rows k r) (slice_get-get_or t.rows k r lt) in omega (arith, below)

pub inside_past : (s : State) (t : Transition) (c : Choice) (k : ℕ) → length t.rows ≤ k → IsRowInside s t c k
inside_past s t c k past = λ q known. absurd (let lt : k < length t.rows = slice_get_within t.rows k q known in omega arith)

pub value_at : (d : RawDb) (t : Transition) (c : Choice) (k : ℕ) (s : SortId) → k < length t.params → IsElement d (get_or t.params k s) (get_or c.values k 0) → IsValueInside d t c k
value_at d t c k s lt is = λ q known. subst (λ (x : SortId). IsElement d x (get_or c.values k 0)) (get_or_from_slice_get t.params k q s known) is

pub no_value_at : (d : RawDb) (t : Transition) (c : Choice) (k : ℕ) (s : SortId) → k < length t.params → (IsElement d (get_or t.params k s) (get_or c.values k 0) → ⊥) → IsValueInside d t c k → ⊥
no_value_at d t c k s lt is_none inside = is_none (inside (get_or t.params k s) (slice_get-get_or t.params k s lt))

pub value_past : (d : RawDb) (t : Transition) (c : Choice) (k : ℕ) → length t.params ≤ k → IsValueInside d t c k
value_past d t c k past = λ q known. absurd (let lt : k < length t.params = slice_get_within t.params k q known in omega arith)

-- the fault of a transition is one of the choice that names it
pub fault_of_choice : (system : SystemParts) (d : RawDb) (s : State) (c : Choice) (t : Transition) (fault : StepFault) → slice_get system.transitions c.transition ≡ Some t
    → IsFaultOf d t s c fault → IsStepFault system d s c fault
fault_of_choice system d s c t NoTransition known h = absurd h
fault_of_choice system d s c t WrongCount known h = (t, known, h)
fault_of_choice system d s c t (RowOutside row) known h = (t, known, h)
fault_of_choice system d s c t (RowRepeated first second) known h = (t, known, h)
fault_of_choice system d s c t (ValueOutside value) known h = (t, known, h)
fault_of_choice system d s c t GuardFalse known h = (t, known, h)
fault_of_choice system d s c t (Memory e) known h = (t, known, h)
