-- The list of a preimage is exact in a system.
use Rattle.std.proofs.Common.{◌≡◌, ℕ, ◌↔◌, refl, subst, slice_get, Some}
use Rattle.ras_logic.specs.declared.raw_db.RawDb.{RawDb}
use Rattle.ras_logic.specs.declared.problem.Problem.{Problem}
use Rattle.ras_logic.specs.Formulas.{Fits, IsCube}
use Rattle.ras_logic.proofs.ByPlace.{one_value}
use Rattle.ras_logic.proofs.Elements.{from_known}
use Rattle.ras_system.specs.declared.state.State.{State}
use Rattle.ras_system.specs.declared.transition.Transition.{Transition}
use Rattle.ras_system.specs.States.{IsState, Meets, MeetsAny}
use Rattle.ras_system.specs.Steps.{StepBy}
use Rattle.ras_system.specs.Systems.{SystemParts, IsSystem, IsTransition}
use Rattle.ras_system.specs.Preimages.{preimage}
use Rattle.ras_backwards.specs.Leading.{LeadsBy, LeadsIn, LeadsByChoice, choice_by}
use Rattle.ras_backwards.proofs.Exact.{exact, by-problem}
use Rattle.ras_backwards.proofs.Lists.{in_slice}

module _ (system : SystemParts) (number : ℕ) (t : Transition) (p : Problem) (d : RawDb) (s : State) (known : slice_get system.transitions number ≡ Some t) where
  without_number : LeadsIn system d s number p → LeadsBy d s t p
  without_number h =
      let there = subst (λ (k : ℕ). slice_get system.transitions k ≡ Some h.step.0) h.by h.step.1 in
      record {
        choice = h.choice;
        next = h.next;
        step = subst (λ (u : Transition). StepBy d u s h.choice h.next) (one_value system.transitions number h.step.0 t there known) h.step.2;
        meets = h.meets;
      }

  -- a step asks nothing of the number
  with_number : LeadsBy d s t p → LeadsIn system d s number p
  with_number h = record {
    choice = record { transition = number; rows = h.choice.rows; values = h.choice.values };
    next = h.next;
    by = refl;
    step = (t, known, record { rows = h.step.rows; params = h.step.params; guard = h.step.guard; after = h.step.after });
    meets = h.meets;
  }

pub exact-numbered : (system : SystemParts) (number : ℕ) (t : Transition) (cube : Problem) (d : RawDb) (s : State) → IsSystem system → slice_get system.transitions number ≡ Some t
    → Fits system.shape cube → IsCube cube → IsState system.shape d s → (LeadsIn system d s number cube ↔ MeetsAny d s (preimage t cube))
exact-numbered system number t cube d s good known fit flat st =
    let is : IsTransition system.shape t = from_known (IsTransition system.shape) system.transitions good.transitions number t known in
    let both = exact system.shape d t is s st cube fit flat in
    (λ h. both.0 (without_number system number t cube d s known h), λ m. with_number system number t cube d s known (both.1 m))

pub by-number : (system : SystemParts) (number : ℕ) (t : Transition) (cube p : Problem) (d : RawDb) (s : State) (place : ℕ) → IsSystem system → slice_get system.transitions number ≡ Some t
    → Fits system.shape cube → IsCube cube → IsState system.shape d s → slice_get (preimage t cube) place ≡ Some p → (m : Meets d s p) → LeadsByChoice system d s (choice_by number t m.0 m.1) cube
by-number system number t cube p d s place good known fit flat st at m =
    let is : IsTransition system.shape t = from_known (IsTransition system.shape) system.transitions good.transitions number t known in
    let into = by-problem system.shape d t is s st cube fit flat p (in_slice (preimage t cube) place p at) m in
    record {
      next = _;
      step = (t, known, record { rows = into.step.rows; params = into.step.params; guard = into.step.guard; after = into.step.after });
      meets = into.meets;
    }
