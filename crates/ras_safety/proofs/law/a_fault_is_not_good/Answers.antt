use Rattle.std.proofs.Common.{ℕ, ◌+◌, List, [], ◌∷◌, subst, ⊎_elim}
use Rattle.std.specs.List.{AllZip}
use Rattle.std.proofs.lemmas.Option.{get_or_from_slice_get, slice_get_within}
use Rattle.std.proofs.lemmas.Slice.Zip.{AllZip-long}
use Rattle.ras_logic.specs.declared.problem.Problem.{Problem}
use Rattle.ras_logic.specs.declared.tree.Tree.{Tree}
use Rattle.ras_logic.specs.declared.tree.Node.{Node}
use Rattle.ras_logic.specs.Schemas.{SchemaParts}
use Rattle.ras_logic.specs.Formulas.{Fits}
use Rattle.ras_logic.specs.Refutations.{Closes}
use Rattle.ras_system.specs.Systems.{SystemParts}
use Rattle.ras_system.specs.Obligations.{Obligation, obligations}
use Rattle.ras_system.specs.Evidence.{ClosesObligation, IsGoodSafe}
use Rattle.ras_refute.specs.declared.tree_fault.TreeFault.{TreeFault}
use Rattle.ras_refute.specs.Faults.{IsTreeFault}
use Rattle.ras_safety.specs.declared.safe_fault.SafeFault.{SafeFault}
use Rattle.ras_safety.specs.declared.safe_fault.SafeFault.TheVariants as fault
use Rattle.ras_safety.specs.Faults.{IsFirstOpen, IsSafeFault}
use Rattle.ras_safety.proofs.law.a_fault_is_not_good.Goals as goal

module _ (law : (schema : SchemaParts) (premise : Problem) (formulas : List Problem) (nodes : List Node) (f : TreeFault) → IsTreeFault schema premise formulas nodes f → ¬ Closes schema premise formulas nodes)
    (system : SystemParts) where
  open-not_closed : (n : ℕ) (os : List Obligation) (ts : List Tree) (at : ℕ) (f : TreeFault) → IsFirstOpen system n os ts at f → AllZip (ClosesObligation system) os ts → ⊥
  open-not_closed n [] ts at f h closed = h
  open-not_closed n (o ∷ os) [] at f h closed = h
  open-not_closed n (o ∷ os) (t ∷ ts) at f h closed =
      ⊎_elim (λ g. law system.shape.schema o.premise o.formulas t.nodes f g.1 closed.0) (λ g. open-not_closed (n + 1) os ts at f g.1 closed.1) h

  not_good : (formulas : List Problem) (trees : List Tree) (f : SafeFault) → IsSafeFault system formulas trees f → ¬ IsGoodSafe system formulas trees
  not_good formulas trees (fault.Formula number) h good =
      h.here (subst (Fits system.shape) (get_or_from_slice_get formulas number h.formula h.formula h.known) (good.fit number h.formula (slice_get_within formulas number h.formula h.known)))
  not_good formulas trees fault.Count h good = h.1 (AllZip-long (ClosesObligation system) (obligations system formulas) trees good.closed)
  not_good formulas trees (fault.Obligation at f) h good = open-not_closed 0 (obligations system formulas) trees at f h.2 good.closed

pub returns : goal.returns
returns c = not_good c.a_fault_is_no_closing.ensures
