-- How far the trees of a certificate were judged.
use Rattle.std.specs.Prelude.{◌≡◌, ◌≢◌, ℕ, ◌≤◌, Option, Some, None, List, [], ◌∷◌, ◌++◌, length, take}
use Rattle.std.specs.List.{AllZip}
use Rattle.ras_logic.specs.declared.tree.Tree.{Tree}
use Rattle.ras_system.specs.Systems.{SystemParts}
use Rattle.ras_system.specs.Obligations.{Obligation}
use Rattle.ras_system.specs.Evidence.{ClosesObligation}
use Rattle.ras_safety.specs.declared.open_tree.OpenTree.{OpenTree}
use Rattle.ras_safety.specs.declared.safe_fault.SafeFault.{SafeFault}
use Rattle.ras_safety.specs.declared.safe_fault.SafeFault.TheVariants as fault
use Rattle.ras_safety.specs.Faults.{IsFirstOpen}

-- each obligation is closed by its tree, or this is the first that is not
abbrev pub AreJudged : SystemParts → List Obligation → List Tree → Option OpenTree → Type 0
AreJudged system os trees None = AllZip (ClosesObligation system) os trees
AreJudged system os trees (Some o) = IsFirstOpen system 0 os trees o.number o.fault

-- one obligation more with its tree, as the one of this number: what was judged of those before it, and then of all
abbrev pub JudgesNext : SystemParts → Obligation → Tree → ℕ → Option OpenTree → Option OpenTree → Type 0
JudgesNext system o t number before after =
    (os : List Obligation) (ts : List Tree) → number ≡ length os → length ts ≡ length os → AreJudged system os ts before
    → AreJudged system (os ++ o ∷ []) (ts ++ t ∷ []) after

-- these obligations were passed, with the first of the trees
pub record HavePassed (system : SystemParts) (trees : List Tree) (passed : ℕ) (first : Option OpenTree) (os : List Obligation) : Type 0 where
  pub count : passed ≡ length os
  pub within : length os ≤ length trees
  pub judged : AreJudged system os (take (length os) trees) first

-- what is told of the trees where no obligation is left: that they were too many, or the first that does not close
abbrev pub IsFoundBy : List Tree → ℕ → Option OpenTree → SafeFault → Type 0
IsFoundBy trees passed first fault.Count = passed ≢ length trees
IsFoundBy trees passed first (fault.Formula number) = ⊥
IsFoundBy trees passed first (fault.Obligation number f) = (passed ≡ length trees) × (first ≡ Some (record { number = number; fault = f }))
