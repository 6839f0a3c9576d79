-- No two faults of an evidence of safety are the first.
use Rattle.std.proofs.Common.{◌≡◌, ℕ, ◌+◌, ◌<◌, List, [], ◌∷◌, take, length, get_or, refl, sym, ◌∙◌, ap, subst, ◌⊎◌, inl, inr}
use Rattle.std.specs.Prelude.{slice_get, Some}
use Rattle.std.proofs.lemmas.Bool.{cases_order}
use Rattle.std.proofs.lemmas.Option.{get_or_from_slice_get, slice_get_within}
use Rattle.ras_logic.specs.declared.problem.Problem.{Problem}
use Rattle.ras_logic.specs.declared.tree.Tree.{Tree}
use Rattle.ras_logic.specs.declared.tree.Node.{Node}
use Rattle.ras_logic.specs.Schemas.{SchemaParts}
use Rattle.ras_logic.specs.Formulas.{Fits}
use Rattle.ras_logic.specs.Refutations.{Closes}
use Rattle.ras_system.specs.Systems.{SystemParts}
use Rattle.ras_system.specs.Obligations.{Obligation, obligations}
use Rattle.ras_system.specs.Evidence.{ClosesObligation}
use Rattle.ras_refute.specs.declared.tree_fault.TreeFault.{TreeFault}
use Rattle.ras_refute.specs.Faults.{IsTreeFault}
use Rattle.ras_logic.proofs.ByPlace.{at_take}
use Rattle.ras_safety.specs.declared.safe_fault.SafeFault.{SafeFault}
use Rattle.ras_safety.specs.declared.safe_fault.SafeFault.TheVariants as fault
use Rattle.ras_safety.specs.Faults.{IsFirstMisfit, IsFirstOpen, IsSafeFault}

abbrev NoClosing : Type 0
NoClosing = (schema : SchemaParts) (premise : Problem) (formulas : List Problem) (nodes : List Node) (f : TreeFault) → IsTreeFault schema premise formulas nodes f → ¬ Closes schema premise formulas nodes

abbrev OneTreeFault : Type 0
OneTreeFault =
    (schema : SchemaParts) (premise : Problem) (formulas : List Problem) (nodes : List Node) (f g : TreeFault) → IsTreeFault schema premise formulas nodes f → IsTreeFault schema premise formulas nodes g → f ≡ g

module _ (system : SystemParts) (formulas : List Problem) where
  -- a formula before the first misfit fits
  earlier : (k n : ℕ) → IsFirstMisfit system formulas k → IsFirstMisfit system formulas n → k < n → ⊥
  earlier k n h later lt =
      let known : slice_get (take n formulas) k ≡ Some h.formula = at_take n formulas k h.formula lt h.known in
      h.here (subst (Fits system.shape) (get_or_from_slice_get (take n formulas) k h.formula h.formula known) (later.before k h.formula (slice_get_within (take n formulas) k h.formula known)))

  one_misfit : (k n : ℕ) → IsFirstMisfit system formulas k → IsFirstMisfit system formulas n → k ≡ n
  one_misfit k n h other = go (cases_order k n)
    where
      go : (k ≡ n) ⊎ ((k < n) ⊎ (n < k)) → k ≡ n
      go (inl e) = e
      go (inr (inl lt)) = absurd (earlier k n h other lt)
      go (inr (inr lt)) = absurd (earlier n k other h lt)

  misfit_fits : (k : ℕ) → IsFirstMisfit system formulas k → ((j : ℕ) (d : Problem) → j < length formulas → Fits system.shape (get_or formulas j d)) → ⊥
  misfit_fits k h fit = h.here (subst (Fits system.shape) (get_or_from_slice_get formulas k h.formula h.formula h.known) (fit k h.formula (slice_get_within formulas k h.formula h.known)))

module _ (no_closing : NoClosing) (one_tree : OneTreeFault) (system : SystemParts) where
  module _ (n : ℕ) (o : Obligation) (os : List Obligation) (t : Tree) (ts : List Tree) (later : (at other : ℕ) (f g : TreeFault) → IsFirstOpen system (n + 1) os ts at f → IsFirstOpen system (n + 1) os ts other g → fault.Obligation at f ≡ fault.Obligation other g) where
    abbrev Here : ℕ → TreeFault → Type 0
    Here at f = (at ≡ n) × IsTreeFault system.shape.schema o.premise o.formulas t.nodes f

    abbrev Later : ℕ → TreeFault → Type 0
    Later at f = ClosesObligation system o t × IsFirstOpen system (n + 1) os ts at f

    open_step : (at other : ℕ) (f g : TreeFault) → Here at f ⊎ Later at f → Here other g ⊎ Later other g → fault.Obligation at f ≡ fault.Obligation other g
    open_step at other f g (inl h) (inl k) =
        ap (λ (m : ℕ). fault.Obligation m f) (h.0 ∙ sym k.0) ∙ ap (λ (x : TreeFault). fault.Obligation other x) (one_tree system.shape.schema o.premise o.formulas t.nodes f g h.1 k.1)
    open_step at other f g (inl h) (inr k) = absurd (no_closing system.shape.schema o.premise o.formulas t.nodes f h.1 k.0)
    open_step at other f g (inr h) (inl k) = absurd (no_closing system.shape.schema o.premise o.formulas t.nodes g k.1 h.0)
    open_step at other f g (inr h) (inr k) = later at other f g h.1 k.1

  one_open : (n : ℕ) (os : List Obligation) (ts : List Tree) (at other : ℕ) (f g : TreeFault) → IsFirstOpen system n os ts at f → IsFirstOpen system n os ts other g
      → fault.Obligation at f ≡ fault.Obligation other g
  one_open n [] ts at other f g h k = absurd h
  one_open n (o ∷ os) [] at other f g h k = absurd h
  one_open n (o ∷ os) (t ∷ ts) at other f g h k = open_step n o os t ts (λ a b x y p q. one_open (n + 1) os ts a b x y p q) at other f g h k

  pub one_fault : (formulas : List Problem) (trees : List Tree) (f g : SafeFault) → IsSafeFault system formulas trees f → IsSafeFault system formulas trees g → f ≡ g
  one_fault formulas trees (fault.Formula k) (fault.Formula n) h other = ap fault.Formula (one_misfit system formulas k n h other)
  one_fault formulas trees (fault.Formula k) fault.Count h other = absurd (misfit_fits system formulas k h other.0)
  one_fault formulas trees (fault.Formula k) (fault.Obligation at f) h other = absurd (misfit_fits system formulas k h other.0)
  one_fault formulas trees fault.Count (fault.Formula n) h other = absurd (misfit_fits system formulas n other h.0)
  one_fault formulas trees fault.Count fault.Count h other = refl
  one_fault formulas trees fault.Count (fault.Obligation at f) h other = absurd (h.1 other.1)
  one_fault formulas trees (fault.Obligation at f) (fault.Formula n) h other = absurd (misfit_fits system formulas n other h.0)
  one_fault formulas trees (fault.Obligation at f) fault.Count h other = absurd (other.1 h.1)
  one_fault formulas trees (fault.Obligation at f) (fault.Obligation b g) h other = one_open 0 (obligations system formulas) trees at b f g h.2 other.2
