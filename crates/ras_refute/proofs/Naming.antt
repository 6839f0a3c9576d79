-- The undefs and constants that are noted for classes.
use Rattle.std.proofs.Common.{◌≡◌, ◌≢◌, ℕ, ◌+◌, ◌<◌, ◌≤◌, List, length, get_or, set, sym, ◌∙◌, subst, arith, ◌⊎◌, ⊎_elim, get_or-set_other, get_or-set_same}
use Rattle.std.specs.Prelude.{slice_get, Option, Some, None}
use Rattle.std.proofs.lemmas.List.{length-set}
use Rattle.std.proofs.lemmas.Option.{none-some, same_Some, slice_get_within}
use Rattle.ras_refute.specs.declared.entry.Entry.{Entry}
use Rattle.ras_refute.specs.declared.entry.Rigid.{Rigid}
use Rattle.ras_refute.specs.Classes.{class}
use Rattle.ras_refute.specs.Clashing.{rigid_of, IsRigid, HasDistinct, AreBounded, AreNamed}

below_cases : (j i : ℕ) → j < i + 1 → (j < i) ⊎ (j ≡ i)
below_cases j i lt = grind arith

place_cases : (a b : ℕ) → (a ≡ b) ⊎ (a ≢ b)
place_cases a b = grind arith

module _ (es : List Entry) (classes : List ℕ) (named : List (Option Rigid)) (i : ℕ) (are : AreNamed es classes named i) where
  -- what is noted once more, or is noted already
  more : (new : List (Option Rigid)) (r : Rigid) → length new ≡ length es → IsRigid es i r
      → ((j : ℕ) (q : Rigid) → j < i → IsRigid es j q → get_or new (class classes j) None ≡ Some q) → get_or new (class classes i) None ≡ Some r
      → ((k : ℕ) (q : Rigid) → get_or new k None ≡ Some q → (j : ℕ) × IsRigid es j q × (class classes j ≡ k)) → AreNamed es classes new (i + 1)
  more new r long here noted at known = record {
    long = long;
    noted = λ j q lt is.
        ⊎_elim (λ (h : j < i). noted j q h is)
        (λ (h : j ≡ i).
        let is_i : IsRigid es i q = subst (λ (n : ℕ). IsRigid es n q) h is in
        let entry : here.entry ≡ is_i.entry = same_Some here.entry is_i.entry (sym here.is ∙ is_i.is) in
        let same : r ≡ q = same_Some r q (sym here.rigid ∙ subst (λ (e : Entry). rigid_of e ≡ Some q) (sym entry) is_i.rigid) in
        subst (λ (n : ℕ). get_or new (class classes n) None ≡ Some q) (sym h) (subst (λ (x : Rigid). get_or new (class classes i) None ≡ Some x) same at))
        (below_cases j i lt);
    known = known;
  }

  -- the entry is no undef and no constant
  pub named-passed : (e : Entry) → slice_get es i ≡ Some e → rigid_of e ≡ None → AreNamed es classes named (i + 1)
  named-passed e is none = record {
    long = are.long;
    noted = λ j r lt rigid.
        ⊎_elim (λ (h : j < i). are.noted j r h rigid)
        (λ (h : j ≡ i).
        let same : rigid.entry ≡ e = same_Some rigid.entry e (sym rigid.is ∙ subst (λ (n : ℕ). slice_get es n ≡ Some e) (sym h) is) in
        absurd (none-some r (sym none ∙ subst (λ (x : Entry). rigid_of x ≡ Some r) same rigid.rigid)))
        (below_cases j i lt);
    known = are.known;
  }

  -- it is the first of its class
  pub named-first : (r : Rigid) → AreBounded es classes → IsRigid es i r → get_or named (class classes i) None ≡ None
      → AreNamed es classes (set named (class classes i) (Some r)) (i + 1)
  named-first r bounded here none =
      let k : ℕ = class classes i in
      let new : List (Option Rigid) = set named k (Some r) in
      let lt : k < length named = rw are.long (bounded.low i (slice_get_within es i here.entry here.is)) in
      more new r (length-set named k (Some r) ∙ are.long) here
      (λ j q less is.
      let old = are.noted j q less is in
      ⊎_elim (λ (e : class classes j ≡ k). absurd (none-some q (sym none ∙ subst (λ (n : ℕ). get_or named n None ≡ Some q) e old)))
      (λ (e : class classes j ≢ k). get_or-set_other named k (class classes j) (Some r) None e ∙ old) (place_cases (class classes j) k))
      (get_or-set_same named k (Some r) None lt)
      (λ n q at.
      ⊎_elim
      (λ (e : n ≡ k).
      let is : Some r ≡ Some q = sym (get_or-set_same named k (Some r) None lt) ∙ subst (λ (m : ℕ). get_or new m None ≡ Some q) e at in
      (i, subst (λ (x : Rigid). IsRigid es i x) (same_Some r q is) here, sym e))
      (λ (e : n ≢ k). are.known n q (sym (get_or-set_other named k n (Some r) None e) ∙ at)) (place_cases n k))

  -- the same is noted for its class
  pub named-again : (r other : Rigid) → IsRigid es i r → get_or named (class classes i) None ≡ Some other → other ≡ r → AreNamed es classes named (i + 1)
  named-again r other here at same = more named r are.long here are.noted (subst (λ (x : Rigid). get_or named (class classes i) None ≡ Some x) same at) are.known

  -- another is noted for its class
  pub named-distinct : (r other : Rigid) → IsRigid es i r → get_or named (class classes i) None ≡ Some other → other ≢ r → HasDistinct es classes
  named-distinct r other here at differ =
      let before = are.known (class classes i) other at in
      record { i = before.0; j = i; left = other; right = r; left_is = before.1; right_is = here; differ = differ; together = before.2 }

-- nothing is noted yet
pub named-none : (es : List Entry) (classes : List ℕ) (named : List (Option Rigid)) → length named ≡ length es
    → ((k : ℕ) → get_or named k None ≡ None) → AreNamed es classes named 0
named-none es classes named long none = record {
  long = long;
  noted = λ j r lt is. absurd (omega (arith, lt));
  known = λ k r at. absurd (none-some r (sym (none k) ∙ at));
}

-- what is noted of all entries leaves no two distinct ones in a class
pub named-apart : (es : List Entry) (classes : List ℕ) (named : List (Option Rigid)) (n : ℕ) → length es ≤ n → AreNamed es classes named n → HasDistinct es classes → ⊥
named-apart es classes named n all are h =
    let left = are.noted h.i h.left (omega (arith, all, slice_get_within es h.i h.left_is.entry h.left_is.is)) h.left_is in
    let right = are.noted h.j h.right (omega (arith, all, slice_get_within es h.j h.right_is.entry h.right_is.is)) h.right_is in
    h.differ (same_Some h.left h.right (sym left ∙ subst (λ (k : ℕ). get_or named k None ≡ Some h.right) (sym h.together) right))
