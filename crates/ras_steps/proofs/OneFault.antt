-- No two faults of a choice are the first.
use Rattle.std.proofs.Common.{◌≡◌, ℕ, zero, suc, ◌<◌, ◌≤◌, List, length, get_or, refl, sym, ◌∙◌, ap, subst, arith, ◌⊎◌, inl, inr}
use Rattle.std.specs.Prelude.{slice_get, Option, Some, None, ⊤}
use Rattle.std.proofs.lemmas.Option.{same_Some, slice_get_within}
use Rattle.std.proofs.lemmas.Bool.{cases_order}
use Rattle.ras_logic.specs.declared.raw_db.RawDb.{RawDb}
use Rattle.ras_system.specs.declared.state.State.{State}
use Rattle.ras_system.specs.declared.choice.Choice.{Choice}
use Rattle.ras_system.specs.declared.transition.Transition.{Transition}
use Rattle.ras_system.specs.Systems.{SystemParts}
use Rattle.ras_system.specs.States.{AreRows}
use Rattle.ras_steps.specs.declared.step_fault.StepFault.{StepFault}
use Rattle.ras_steps.specs.declared.step_fault.StepFault.TheVariants.{NoTransition, WrongCount, RowOutside, RowRepeated, ValueOutside, GuardFalse, Memory}
use Rattle.ras_steps.specs.StepFaults.{HasCounts, IsRowInside, IsValueInside, Repeats, AreApartBefore, IsFirstNot, GuardHolds, IsFaultOf, IsStepFault}
use Rattle.ras_steps.specs.ReplayFaults.{IsMemory}

first_is_one : (P : ℕ → Type 0) (end j k : ℕ) → IsFirstNot P end j → IsFirstNot P end k → j ≡ k
first_is_one P end j k a b = go (cases_order j k)
  where
    go : (j ≡ k) ⊎ ((j < k) ⊎ (k < j)) → j ≡ k
    go (inl e) = e
    go (inr (inl lt)) = absurd (a.not_here (b.before j lt))
    go (inr (inr lt)) = absurd (b.not_here (a.before k lt))

-- the place of a fault in the order
abbrev rank : StepFault → ℕ
rank WrongCount = 0
rank (RowOutside row) = 1
rank (RowRepeated first second) = 2
rank (ValueOutside value) = 3
rank GuardFalse = 4
rank (Memory e) = 5
rank NoTransition = 6

module _ (d : RawDb) (t : Transition) (s : State) (c : Choice) where
  -- what stands where the fault at that place does not
  abbrev Stands : ℕ → Type 0
  Stands zero = HasCounts t c
  Stands (suc zero) = (k : ℕ) → IsRowInside s t c k
  Stands (suc (suc zero)) = AreApartBefore t c (length t.rows)
  Stands (suc (suc (suc zero))) = (k : ℕ) → IsValueInside d t c k
  Stands (suc (suc (suc (suc zero)))) = GuardHolds d t s c
  Stands (suc (suc (suc (suc (suc n))))) = ⊤

  apart_of : AreRows s t.rows c.rows → (k : ℕ) → AreApartBefore t c k
  apart_of rows k i j lt again =
      let earlier : i < j = again.earlier in
      let same : i ≡ j = rows.different i j again.relation again.first_relation again.second_relation again.same in omega arith

  passed : (f : StepFault) → IsFaultOf d t s c f → (j : ℕ) → j < rank f → Stands j
  passed WrongCount h j lt = absurd (omega arith)
  passed (RowOutside row) h zero lt = h.0
  passed (RowOutside row) h (suc j) lt = absurd (omega arith)
  passed (RowRepeated first second) h zero lt = h.0
  passed (RowRepeated first second) h (suc zero) lt = h.1
  passed (RowRepeated first second) h (suc (suc j)) lt = absurd (omega arith)
  passed (ValueOutside value) h zero lt = h.0
  passed (ValueOutside value) h (suc zero) lt = h.1.each
  passed (ValueOutside value) h (suc (suc zero)) lt = apart_of h.1 (length t.rows)
  passed (ValueOutside value) h (suc (suc (suc j))) lt = absurd (omega arith)
  passed GuardFalse h zero lt = record { rows = h.0.as_many; values = h.1.as_many }
  passed GuardFalse h (suc zero) lt = h.0.each
  passed GuardFalse h (suc (suc zero)) lt = apart_of h.0 (length t.rows)
  passed GuardFalse h (suc (suc (suc zero))) lt = h.1.each
  passed GuardFalse h (suc (suc (suc (suc j)))) lt = absurd (omega arith)
  passed (Memory e) h zero lt = record { rows = h.rows.as_many; values = h.params.as_many }
  passed (Memory e) h (suc zero) lt = h.rows.each
  passed (Memory e) h (suc (suc zero)) lt = apart_of h.rows (length t.rows)
  passed (Memory e) h (suc (suc (suc zero))) lt = h.params.each
  passed (Memory e) h (suc (suc (suc (suc zero)))) lt = h.guard
  passed (Memory e) h (suc (suc (suc (suc (suc j))))) lt = absurd (omega arith)
  passed NoTransition h j lt = absurd h

  failed : (f : StepFault) → IsFaultOf d t s c f → (IsMemory f → ⊥) → Stands (rank f) → ⊥
  failed WrongCount h m stands = h stands
  failed (RowOutside row) h m stands = h.1.not_here (stands row)
  failed (RowRepeated first second) h m stands = stands first second (slice_get_within t.rows second h.3.relation h.3.second_relation) h.3
  failed (ValueOutside value) h m stands = h.2.not_here (stands value)
  failed GuardFalse h m stands = h.2 stands
  failed (Memory e) h m stands = m tt
  failed NoTransition h m stands = h

  same_rank : (f g : StepFault) → IsFaultOf d t s c f → IsFaultOf d t s c g → (IsMemory f → ⊥) → (IsMemory g → ⊥) → rank f ≡ rank g
  same_rank f g hf hg mf mg = go (cases_order (rank f) (rank g))
    where
      go : (rank f ≡ rank g) ⊎ ((rank f < rank g) ⊎ (rank g < rank f)) → rank f ≡ rank g
      go (inl e) = e
      go (inr (inl lt)) = absurd (failed f hf mf (passed g hg (rank f) lt))
      go (inr (inr lt)) = absurd (failed g hg mg (passed f hf (rank g) lt))

  -- two rows that are both the same as a third are the same
  between : (i j k : ℕ) → Repeats t c i k → Repeats t c j k → i < j → Repeats t c i j
  between i j k a b lt =
      let one = same_Some a.relation b.relation (sym a.second_relation ∙ b.second_relation) in record {
        earlier = lt;
        relation = b.relation;
        first_relation = a.first_relation ∙ ap Some one;
        second_relation = b.first_relation;
        same = a.same ∙ sym b.same;
      }

  same_first : (i j k : ℕ) → AreApartBefore t c k → Repeats t c i k → Repeats t c j k → i ≡ j
  same_first i j k apart a b = go (cases_order i j)
    where
      go : (i ≡ j) ⊎ ((i < j) ⊎ (j < i)) → i ≡ j
      go (inl e) = e
      go (inr (inl lt)) = absurd (apart i j b.earlier (between i j k a b lt))
      go (inr (inr lt)) = absurd (apart j i a.earlier (between j i k b a lt))

  same_second : (i j k l : ℕ) → AreApartBefore t c k → Repeats t c i k → AreApartBefore t c l → Repeats t c j l → k ≡ l
  same_second i j k l apart a apart_too b = go (cases_order k l)
    where
      go : (k ≡ l) ⊎ ((k < l) ⊎ (l < k)) → k ≡ l
      go (inl e) = e
      go (inr (inl lt)) = absurd (apart_too i k lt a)
      go (inr (inr lt)) = absurd (apart j l lt b)

  one : (f g : StepFault) → IsFaultOf d t s c f → IsFaultOf d t s c g → (IsMemory f → ⊥) → (IsMemory g → ⊥) → rank f ≡ rank g → f ≡ g
  one WrongCount WrongCount hf hg mf mg e = refl
  one (RowOutside k) (RowOutside j) hf hg mf mg e = ap RowOutside (first_is_one (IsRowInside s t c) (length t.rows) k j hf.1 hg.1)
  one (RowRepeated i k) (RowRepeated j l) hf hg mf mg e =
      let seconds = same_second i j k l hf.2 hf.3 hg.2 hg.3 in
      let firsts = same_first i j k hf.2 hf.3 (subst (λ (m : ℕ). Repeats t c j m) (sym seconds) hg.3) in
      ap (λ (m : ℕ). RowRepeated m k) firsts ∙ ap (RowRepeated j) seconds
  one (ValueOutside k) (ValueOutside j) hf hg mf mg e = ap ValueOutside (first_is_one (IsValueInside d t c) (length t.params) k j hf.2 hg.2)
  one GuardFalse GuardFalse hf hg mf mg e = refl
  one (Memory x) (Memory y) hf hg mf mg e = absurd (mf tt)
  one NoTransition NoTransition hf hg mf mg e = refl
  one f g hf hg mf mg e = absurd (omega (arith, e))

module _ (system : SystemParts) (d : RawDb) (s : State) (c : Choice) where
  -- there is no transition of that number
  no_transition : (f : StepFault) → IsStepFault system d s c f → slice_get system.transitions c.transition ≡ None → f ≡ NoTransition
  no_transition NoTransition h none = refl
  no_transition WrongCount h none = absurd (let both = sym none ∙ h.1 in cc)
  no_transition (RowOutside row) h none = absurd (let both = sym none ∙ h.1 in cc)
  no_transition (RowRepeated first second) h none = absurd (let both = sym none ∙ h.1 in cc)
  no_transition (ValueOutside value) h none = absurd (let both = sym none ∙ h.1 in cc)
  no_transition GuardFalse h none = absurd (let both = sym none ∙ h.1 in cc)
  no_transition (Memory e) h none = absurd (let both = sym none ∙ h.1 in cc)

  of_transition : (t u : Transition) (f : StepFault) → slice_get system.transitions c.transition ≡ Some t → slice_get system.transitions c.transition ≡ Some u → IsFaultOf d u s c f → IsFaultOf d t s c f
  of_transition t u f known there h = subst (λ (x : Transition). IsFaultOf d x s c f) (same_Some u t (sym there ∙ known)) h

  transition_fault : (t : Transition) (f : StepFault) → IsStepFault system d s c f → slice_get system.transitions c.transition ≡ Some t → IsFaultOf d t s c f
  transition_fault t NoTransition h known = absurd (let lt = slice_get_within system.transitions c.transition t known in omega (arith, h, lt))
  transition_fault t WrongCount h known = of_transition t h.0 WrongCount known h.1 h.2
  transition_fault t (RowOutside row) h known = of_transition t h.0 (RowOutside row) known h.1 h.2
  transition_fault t (RowRepeated first second) h known = of_transition t h.0 (RowRepeated first second) known h.1 h.2
  transition_fault t (ValueOutside value) h known = of_transition t h.0 (ValueOutside value) known h.1 h.2
  transition_fault t GuardFalse h known = of_transition t h.0 GuardFalse known h.1 h.2
  transition_fault t (Memory e) h known = of_transition t h.0 (Memory e) known h.1 h.2

  pub one_fault : (f g : StepFault) → IsStepFault system d s c f → IsStepFault system d s c g → (IsMemory f → ⊥) → (IsMemory g → ⊥) → f ≡ g
  one_fault f g hf hg mf mg = go (slice_get system.transitions c.transition) refl
    where
      go : (o : Option Transition) → slice_get system.transitions c.transition ≡ o → f ≡ g
      go None none = no_transition f hf none ∙ sym (no_transition g hg none)
      go (Some t) known =
          let of_f = transition_fault t f hf known in
          let of_g = transition_fault t g hg known in
          one d t s c f g of_f of_g mf mg (same_rank d t s c f g of_f of_g mf mg)
