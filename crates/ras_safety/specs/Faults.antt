-- The first thing that is wrong with an evidence of safety.
use Rattle.std.specs.Prelude.{◌≡◌, ◌≢◌, ℕ, ◌+◌, ◌⊎◌, List, ◌∷◌, All, length, take, slice_get, Some, ⊤}
use Rattle.ras_logic.specs.declared.problem.Problem.{Problem}
use Rattle.ras_logic.specs.declared.tree.Tree.{Tree}
use Rattle.ras_logic.specs.Formulas.{Fits}
use Rattle.ras_system.specs.Systems.{SystemParts}
use Rattle.ras_system.specs.Obligations.{Obligation, obligations}
use Rattle.ras_system.specs.Evidence.{ClosesObligation}
use Rattle.ras_refute.specs.declared.tree_fault.TreeFault.{TreeFault}
use Rattle.ras_refute.specs.Faults.{IsTreeFault}
use Rattle.ras_safety.specs.declared.safe_fault.SafeFault.{SafeFault}
use Rattle.ras_safety.specs.declared.safe_fault.SafeFault.TheVariants as fault
use Rattle.ras_safety.specs.declared.safe_fault.SafetyError.{SafetyError}
use Rattle.ras_safety.specs.declared.safe_fault.SafetyError.TheVariants.{Fault, Memory}

-- the first fault of a tree that is to close an obligation
abbrev pub IsFaultOf : SystemParts → Obligation → Tree → TreeFault → Type 0
IsFaultOf system o t f = IsTreeFault system.shape.schema o.premise o.formulas t.nodes f

-- The first of the obligations that its tree does not close, counted from a number, with the tree's first fault: it is the
-- first one, or the first is closed and it is that of the others.
abbrev pub IsFirstOpen : SystemParts → ℕ → List Obligation → List Tree → ℕ → TreeFault → Type 0
IsFirstOpen system number (o ∷ os) (t ∷ ts) at f =
    ((at ≡ number) × IsFaultOf system o t f) ⊎ (ClosesObligation system o t × IsFirstOpen system (number + 1) os ts at f)
IsFirstOpen system number _ _ at f = ⊥

-- the first formula that does not fit
pub record IsFirstMisfit (system : SystemParts) (formulas : List Problem) (number : ℕ) : Type 0 where
  pub formula : Problem
  pub known : slice_get formulas number ≡ Some formula
  pub before : All (Fits system.shape) (take number formulas)
  pub here : ¬ Fits system.shape formula

-- what is wrong with an evidence first: a formula, the number of trees, or a tree
abbrev pub IsSafeFault : SystemParts → List Problem → List Tree → SafeFault → Type 0
IsSafeFault system formulas trees (fault.Formula number) = IsFirstMisfit system formulas number
IsSafeFault system formulas trees fault.Count = All (Fits system.shape) formulas × (length trees ≢ length (obligations system formulas))
IsSafeFault system formulas trees (fault.Obligation number f) =
    All (Fits system.shape) formulas × (length trees ≡ length (obligations system formulas)) × IsFirstOpen system 0 (obligations system formulas) trees number f

-- where the error is a fault of the evidence
abbrev pub OnFault : SafetyError → (SafeFault → Type 0) → Type 0
OnFault (Fault f) P = P f
OnFault (Memory e) P = ⊤
