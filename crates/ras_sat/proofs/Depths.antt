-- How deep a search goes, and how far a step brings it.
use Rattle.std.proofs.Common.{◌≡◌, ℕ, zero, suc, ◌+◌, ◌-◌, ◌*◌, ◌<◌, ◌≤◌, Bool, true, false, ◌||◌, List, [], ◌∷◌, length, refl, sym, subst, arith, ◌⊎◌, inl, inr, ⊎_elim}
use Rattle.std.specs.Prelude.{Contains}
use Rattle.std.specs.List.{list_any, AllByRecursion, IsDistinct}
use Rattle.std.proofs.lemmas.List.{length-map}
use Rattle.std.proofs.lemmas.List.Elements.{Contains-append_left, Contains-push}
use Rattle.std.proofs.lemmas.Bool.{eqb-true}
use Rattle.std.proofs.lemmas.Map.Steps.{length-le_from_distinct_below}
use Rattle.std.proofs.Math.Dec.{eqb}
use Rattle.std.proofs.Math.Nat.{mul-le-mul_right}
use Rattle.ras_logic.specs.declared.literal.Literal.{Literal}
use Rattle.ras_sat.specs.declared.task.Task.{Task}
use Rattle.ras_sat.specs.declared.open_split.OpenSplit.{OpenSplit}
use Rattle.ras_sat.specs.Tasks.{opposites_at}
use Rattle.ras_sat.specs.Splits.{AreOpen, instances_of}
use Rattle.ras_sat.specs.Efforts.{effort}
use Rattle.ras_logic.proofs.Elements.{contains-here, contains-later}
use Rattle.ras_logic.proofs.Elements.{contains-at}

or_true : (a b : Bool) → (a || b) ≡ true → (a ≡ true) ⊎ (b ≡ true)
or_true true b h = inl refl
or_true false b h = inr h

contained : (q : ℕ) (xs : List ℕ) → list_any (eqb q) xs ≡ true → Contains xs q
contained q [] h = absurd (cc)
contained q (x ∷ xs) h =
    ⊎_elim (λ (e : eqb q x ≡ true). let same : q ≡ x = eqb-true q x e in (0, omega arith, sym same))
    (λ (rest : list_any (eqb q) xs ≡ true). contains-later x q xs (contained q xs rest)) (or_true (eqb q x) (list_any (eqb q) xs) h)

none_alike : (q : ℕ) (xs : List ℕ) → (Contains xs q → ⊥) → AllByRecursion (λ y. eqb q y ≡ false) xs
none_alike q [] none = tt
none_alike q (x ∷ xs) none = (here (eqb q x) refl, none_alike q xs (λ h. none (contains-later x q xs h)))
  where
    here : (b : Bool) → eqb q x ≡ b → eqb q x ≡ false
    here true e = let same : q ≡ x = eqb-true q x e in absurd (none (subst (λ (y : ℕ). Contains (y ∷ xs) q) same (contains-here q xs)))
    here false e = e

module _ (t : Task) where
  open-distinct : (facts : List Literal) (splits : List OpenSplit) → AreOpen t facts splits → IsDistinct eqb (instances_of splits)
  unfolding IsDistinct
  open-distinct facts [] h = tt
  open-distinct facts (s ∷ splits) h = (none_alike s.instance (instances_of splits) h.1.other, open-distinct h.0 splits h.2)

  open-within : (facts : List Literal) (splits : List OpenSplit) → AreOpen t facts splits → (q : ℕ) → Contains (instances_of splits) q → q < length t.instances.now
  open-within facts [] h q c = absurd (omega (arith, c.1))
  open-within facts (s ∷ splits) h q (zero, lt, e) = let w = h.1.refuted.within in omega (arith, w, e)
  open-within facts (s ∷ splits) h q (suc k, lt, e) = open-within h.0 splits h.2 q (k, omega (arith, lt), e)

  -- there are fewer open splits than instances, where one more is by another instance
  pub open-few : (facts : List Literal) (splits : List OpenSplit) (instance : ℕ) → AreOpen t facts splits → instance < length t.instances.now → (Contains (instances_of splits) instance → ⊥)
      → length splits < length t.instances.now
  unfolding IsDistinct
  open-few facts splits instance h within other =
      let distinct : IsDistinct eqb (instance ∷ instances_of splits) = (none_alike instance (instances_of splits) other, open-distinct facts splits h) in
      let most = length-le_from_distinct_below (instance ∷ instances_of splits) (length t.instances.now) distinct (λ q any. below q (contained q (instance ∷ instances_of splits) any)) in
      omega (arith, most, length-map splits (λ (s : OpenSplit). s.instance))
    where
      below : (q : ℕ) → Contains (instance ∷ instances_of splits) q → q < length t.instances.now
      below q (zero, lt, e) = omega (arith, within, e)
      below q (suc k, lt, e) = open-within facts splits h q (k, omega (arith, lt), e)

  -- the instances of the splits above have an opposite among the facts
  pub open-met : (facts : List Literal) (splits : List OpenSplit) → AreOpen t facts splits → (q : ℕ) → Contains (instances_of splits) q
      → (l : Literal) × Contains (opposites_at t q) l × Contains facts l
  open-met facts [] h q c = absurd (omega (arith, c.1))
  open-met facts (s ∷ splits) h q (zero, lt, e) =
      let n = h.1 in (
        n.literal,
        subst (λ (k : ℕ). Contains (opposites_at t k) n.literal) e (contains-at (opposites_at t s.instance) (length s.done) n.literal n.known),
        subst (λ (fs : List Literal). Contains fs n.literal) (sym n.facts_are) (Contains-push h.0 n.literal),
      )
  open-met facts (s ∷ splits) h q (suc k, lt, e) =
      let r = open-met h.0 splits h.2 q (k, omega (arith, lt), e) in
      (r.0, r.1, subst (λ (fs : List Literal). Contains fs r.0) (sym h.1.facts_are) (Contains-append_left h.0 (h.1.literal ∷ []) r.0 r.2))

  -- the premise's literals are among the facts
  pub open-premise : (facts : List Literal) (splits : List OpenSplit) → AreOpen t facts splits → (l : Literal) → Contains t.premise.now.literals l → Contains facts l
  open-premise facts [] h l c = subst (λ (fs : List Literal). Contains fs l) (sym h) c
  open-premise facts (s ∷ splits) h l c =
      subst (λ (fs : List Literal). Contains fs l) (sym h.1.facts_are) (Contains-append_left h.0 (h.1.literal ∷ []) l (open-premise h.0 splits h.2 l c))

-- what a case takes that is split
pub effort-split : (most count n d : ℕ) → count ≤ most → d < n → count * effort most (n - (d + 1)) + 1 < effort most (n - d)
unfolding effort
effort-split most count n d few lt =
    let e : n - d ≡ suc (n - (d + 1)) = omega arith in
    let le = mul-le-mul_right (effort most (n - (d + 1))) few in
    rw e (omega (arith, le))

pub effort-some : (most n : ℕ) → 1 < effort most n
unfolding effort
effort-some most zero = omega arith
effort-some most (suc n) = omega arith
