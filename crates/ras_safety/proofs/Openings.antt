-- The first obligation that its tree does not close, where one obligation more is judged.
use Rattle.std.proofs.Common.{◌≡◌, ℕ, ◌+◌, List, [], ◌∷◌, ◌++◌, length, refl, sym, subst, arith, ⊎_elim, inl, inr}
use Rattle.std.specs.Prelude.{Some, None}
use Rattle.std.specs.List.{AllZip}
use Rattle.ras_logic.specs.declared.tree.Tree.{Tree}
use Rattle.ras_system.specs.Systems.{SystemParts}
use Rattle.ras_system.specs.Obligations.{Obligation}
use Rattle.ras_system.specs.Evidence.{ClosesObligation}
use Rattle.ras_obligations.proofs.Zipped.{AllZip-append}
use Rattle.ras_refute.specs.declared.tree_fault.TreeFault.{TreeFault}
use Rattle.ras_safety.specs.declared.open_tree.OpenTree.{OpenTree}
use Rattle.ras_safety.specs.Faults.{IsFaultOf, IsFirstOpen}
use Rattle.ras_safety.specs.Judging.{JudgesNext}

module _ (system : SystemParts) where
  -- it stands in the first part
  open-first : (os more_os : List Obligation) (ts more_ts : List Tree) (n at : ℕ) (f : TreeFault) → IsFirstOpen system n os ts at f
      → IsFirstOpen system n (os ++ more_os) (ts ++ more_ts) at f
  open-first [] more_os ts more_ts n at f h = absurd h
  open-first (o ∷ os) more_os [] more_ts n at f h = absurd h
  open-first (o ∷ os) more_os (t ∷ ts) more_ts n at f h =
      ⊎_elim inl (λ g. inr (g.0, open-first os more_os ts more_ts (n + 1) at f g.1)) h

  -- the first part is closed, and it stands in the second
  open-second : (os more_os : List Obligation) (ts more_ts : List Tree) (n at : ℕ) (f : TreeFault) → AllZip (ClosesObligation system) os ts
      → IsFirstOpen system (n + length os) more_os more_ts at f → IsFirstOpen system n (os ++ more_os) (ts ++ more_ts) at f
  open-second [] more_os [] more_ts n at f all h =
      subst (λ (m : ℕ). IsFirstOpen system m more_os more_ts at f) (omega arith) h
  open-second [] more_os (t ∷ ts) more_ts n at f all h = absurd all
  open-second (o ∷ os) more_os [] more_ts n at f all h = absurd all
  open-second (o ∷ os) more_os (t ∷ ts) more_ts n at f all h =
      inr (
        all.0,
        open-second os more_os ts more_ts (n + 1) at f all.1
            (subst (λ (m : ℕ). IsFirstOpen system m more_os more_ts at f) (omega arith) h),
      )

  module _ (o : Obligation) (t : Tree) (number : ℕ) where
    pub still-open : (first : OpenTree) → JudgesNext system o t number (Some first) (Some first)
    still-open first = λ os ts count as_many h. open-first os (o ∷ []) ts (t ∷ []) 0 first.number first.fault h

    pub next-closed : ClosesObligation system o t → JudgesNext system o t number None None
    next-closed here = λ os ts count as_many h. AllZip-append (ClosesObligation system) os (o ∷ []) ts (t ∷ []) h (here, tt)

    pub next-open : (f : TreeFault) → IsFaultOf system o t f → JudgesNext system o t number None (Some (record { number = number; fault = f }))
    next-open f here = λ os ts count as_many h. open-second os (o ∷ []) ts (t ∷ []) 0 number f h (inl (omega (arith, count), here))
