-- Why there is no step by a choice: the first fault.
use Rattle.std.specs.Prelude.{◌≡◌, ℕ, ◌<◌, ◌≤◌, List, length, get_or, slice_get, Some, Any}
use Rattle.ras_logic.specs.declared.ids.SortId.{SortId}
use Rattle.ras_logic.specs.declared.ids.RelId.{RelId}
use Rattle.ras_logic.specs.declared.raw_db.RawDb.{RawDb}
use Rattle.ras_logic.specs.Databases.{IsElement}
use Rattle.ras_logic.specs.Truth.{AreElements, AllHold}
use Rattle.ras_system.specs.declared.state.State.{State}
use Rattle.ras_system.specs.declared.choice.Choice.{Choice}
use Rattle.ras_system.specs.declared.transition.Transition.{Transition}
use Rattle.ras_system.specs.Systems.{SystemParts}
use Rattle.ras_system.specs.States.{rows_of, AreRows, values_at}
use Rattle.ras_steps.specs.declared.step_fault.StepFault.{StepFault}
use Rattle.ras_steps.specs.declared.step_fault.StepFault.TheVariants.{NoTransition, WrongCount, RowOutside, RowRepeated, ValueOutside, GuardFalse, Memory}

-- a row for each row parameter and a value for each data parameter
pub record HasCounts (t : Transition) (c : Choice) : Type 0 where
  pub rows : length c.rows ≡ length t.rows
  pub values : length c.values ≡ length t.params

-- the row parameter of that number has a row of its relation
abbrev pub IsRowInside : State → Transition → Choice → ℕ → Type 0
IsRowInside s t c k = (r : RelId) → slice_get t.rows k ≡ Some r → get_or c.rows k 0 < length (rows_of s r)

-- the data parameter of that number has an element of its sort
abbrev pub IsValueInside : RawDb → Transition → Choice → ℕ → Type 0
IsValueInside d t c k = (sort : SortId) → slice_get t.params k ≡ Some sort → IsElement d sort (get_or c.values k 0)

-- two row parameters of one relation with one row, the first named first
pub record Repeats (t : Transition) (c : Choice) (first second : ℕ) : Type 0 where
  pub earlier : first < second
  pub relation : RelId
  pub first_relation : slice_get t.rows first ≡ Some relation
  pub second_relation : slice_get t.rows second ≡ Some relation
  pub same : get_or c.rows first 0 ≡ get_or c.rows second 0

-- the row parameters before that number have different rows
abbrev pub AreApartBefore : Transition → Choice → ℕ → Type 0
AreApartBefore t c k = (i j : ℕ) → j < k → Repeats t c i j → ⊥

-- the first number below an end of which something does not hold
pub record IsFirstNot (P : ℕ → Type 0) (end k : ℕ) : Type 0 where
  pub within : k < end
  pub before : (j : ℕ) → j < k → P j
  pub not_here : P k → ⊥

-- some disjunct of the guard holds
abbrev pub GuardHolds : RawDb → Transition → State → Choice → Type 0
GuardHolds d t s c = Any (AllHold d (values_at s t.rows c.rows c.values)) t.guard

-- the transition has a step by the choice
pub record HasStep (d : RawDb) (t : Transition) (s : State) (c : Choice) : Type 0 where
  pub rows : AreRows s t.rows c.rows
  pub params : AreElements d t.params c.values
  pub guard : GuardHolds d t s c

-- The counts; then each row, in the relation; then two rows that are one; then each value; then the guard. Memory is wanting only
-- where there is a step.
abbrev pub IsFaultOf : RawDb → Transition → State → Choice → StepFault → Type 0
IsFaultOf d t s c NoTransition = ⊥
IsFaultOf d t s c WrongCount = HasCounts t c → ⊥
IsFaultOf d t s c (RowOutside row) = HasCounts t c × IsFirstNot (IsRowInside s t c) (length t.rows) row
IsFaultOf d t s c (RowRepeated first second) =
    HasCounts t c × ((k : ℕ) → IsRowInside s t c k) × AreApartBefore t c second × Repeats t c first second
IsFaultOf d t s c (ValueOutside value) =
    HasCounts t c × AreRows s t.rows c.rows × IsFirstNot (IsValueInside d t c) (length t.params) value
IsFaultOf d t s c GuardFalse = AreRows s t.rows c.rows × AreElements d t.params c.values × (GuardHolds d t s c → ⊥)
IsFaultOf d t s c (Memory e) = HasStep d t s c

-- there is no transition of that number, or there is one, and its first fault
abbrev pub IsStepFault : SystemParts → RawDb → State → Choice → StepFault → Type 0
IsStepFault system d s c NoTransition = length system.transitions ≤ c.transition
IsStepFault system d s c fault = (t : Transition) × (slice_get system.transitions c.transition ≡ Some t) × IsFaultOf d t s c fault
