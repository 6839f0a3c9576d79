-- Bulk cases of one relation that are consecutive.
use Rattle.std.proofs.Common.{◌≡◌, ℕ, zero, suc, ◌+◌, ◌-◌, ◌<◌, Bool, true, false, ◌&&◌, List, [], ◌∷◌, length, take, get_or, refl, sym, ◌∙◌, ap, subst, arith, inl, inr}
use Rattle.std.specs.Prelude.{Some, slice_get, not}
use Rattle.std.specs.List.{list_any}
use Rattle.std.proofs.lemmas.Option.{slice_get_within, slice_get-get_or, get_or_from_slice_get, same_Some}
use Rattle.std.proofs.lemmas.List.{length-take-le, get_or-take}
use Rattle.std.proofs.lemmas.List.Folds.{list_any_at, Any-from_list_any}
use Rattle.std.proofs.lemmas.Bool.{cases_lt, eqb-true, eq-eqb, not-false}
use Rattle.ras_logic.specs.declared.ids.RelId.{RelId}
use Rattle.ras_system.specs.declared.bulk.Bulk.{Bulk}
use Rattle.ras_system.specs.Systems.{AreInGroups}
use Rattle.ras_system.specs.SystemFaults.{is_of_relation, is_out_of_group}

slice_get-take : {A : Type 0} (xs : List A) (n k : ℕ) → k < n → slice_get (take n xs) k ≡ slice_get xs k
slice_get-take xs zero k lt = absurd (omega arith)
slice_get-take [] (suc n) k lt = refl
slice_get-take (x ∷ xs) (suc n) zero lt = refl
slice_get-take (x ∷ xs) (suc n) (suc k) lt = slice_get-take xs n k (omega arith)

same_relation : (b : Bulk) (r : RelId) → is_of_relation r b ≡ true → b.relation ≡ r
same_relation b r h = ap (λ (n : ℕ). record { n = n }) (eqb-true b.relation.n r.n h)

of_relation : (b : Bulk) (r : RelId) → b.relation ≡ r → is_of_relation r b ≡ true
of_relation b r h = eq-eqb b.relation.n r.n (ap (λ (q : RelId). q.n) h)

-- the case just before
last_before : (bulk : List Bulk) (k : ℕ) (p c : Bulk) → slice_get bulk k ≡ Some p → slice_get bulk (suc k) ≡ Some c
    → slice_get (take (suc k) bulk) (length (take (suc k) bulk) - 1) ≡ Some p
last_before bulk k p c known next =
    let within : suc k < length bulk = slice_get_within bulk (suc k) c next in
    let count : length (take (suc k) bulk) - 1 ≡ k = rw (length-take-le (suc k) bulk (omega arith)) (omega arith) in
    rw count (slice_get-take bulk (suc k) k (omega arith) ∙ known)

module _ (bulk : List Bulk) where
  -- a case whose relation has an earlier case follows one of its relation
  follows : ((k : ℕ) (b : Bulk) → slice_get bulk k ≡ Some b → is_out_of_group (take k bulk) b.relation ≡ false)
      → (i k : ℕ) (a p c : Bulk) → i < suc k → slice_get bulk i ≡ Some a → slice_get bulk k ≡ Some p → slice_get bulk (suc k) ≡ Some c → a.relation ≡ c.relation
      → p.relation ≡ c.relation
  follows passes i k a p c lt first before last same =
      let within : suc k < length bulk = slice_get_within bulk (suc k) c last in
      let shorter : i < length (take (suc k) bulk) = rw (length-take-le (suc k) bulk (omega arith)) lt in
      let early : list_any (is_of_relation c.relation) (take (suc k) bulk) ≡ true =
      list_any_at (is_of_relation c.relation) (take (suc k) bulk) i a shorter
      (rw (get_or-take (suc k) bulk i a lt, get_or_from_slice_get bulk i a a first) (of_relation a c.relation same)) in
      let out : (true && not (is_of_relation c.relation p)) ≡ false =
      rw (early, last_before bulk k p c before last) at (passes (suc k) c last) in
      same_relation p c.relation (not-false (is_of_relation c.relation p) out)

  between : ((k : ℕ) (b : Bulk) → slice_get bulk k ≡ Some b → is_out_of_group (take k bulk) b.relation ≡ false)
      → (distance i j : ℕ) (a b c : Bulk) → i < j → slice_get bulk i ≡ Some a → slice_get bulk j ≡ Some b → slice_get bulk (j + suc distance) ≡ Some c
      → a.relation ≡ c.relation → b.relation ≡ c.relation
  between passes zero i j a b c lt first mid last same =
      let at_end : j + suc zero ≡ suc j = omega arith in
      follows passes i j a b c (omega arith) first mid (subst (λ (n : ℕ). slice_get bulk n ≡ Some c) at_end last) same
  between passes (suc distance) i j a b c lt first mid last same =
      let at_end : j + suc (suc distance) ≡ suc (j + suc distance) = omega arith in
      let end : slice_get bulk (suc (j + suc distance)) ≡ Some c = subst (λ (n : ℕ). slice_get bulk n ≡ Some c) at_end last in
      let within : suc (j + suc distance) < length bulk = slice_get_within bulk (suc (j + suc distance)) c end in
      let before : slice_get bulk (j + suc distance) ≡ Some _ = slice_get-get_or bulk (j + suc distance) c (omega arith) in
      let step = follows passes i (j + suc distance) a _ c (omega arith) first before end same in
      between passes distance i j a b _ lt first mid before (same ∙ sym step) ∙ step

  pub in_groups : ((k : ℕ) (b : Bulk) → slice_get bulk k ≡ Some b → is_out_of_group (take k bulk) b.relation ≡ false) → AreInGroups bulk
  in_groups passes i j k a b c before after first mid last same =
      let distance : j + suc (k - suc j) ≡ k = omega arith in
      between passes (k - suc j) i j a b c before first mid (subst (λ (n : ℕ). slice_get bulk n ≡ Some c) (sym distance) last) same ∙ sym same

  -- a case in groups, after the case p
  passes_after : AreInGroups bulk → (k : ℕ) (p b : Bulk) → suc k < length bulk → slice_get bulk k ≡ Some p → slice_get bulk (suc k) ≡ Some b
      → is_out_of_group (take (suc k) bulk) b.relation ≡ false
  passes_after groups k p b within before known = go (list_any (is_of_relation b.relation) (take (suc k) bulk)) refl
    where
      -- an earlier case of the relation makes the one just before one of it
      just_before : (i : ℕ) (a : Bulk) → i < suc k → slice_get bulk i ≡ Some a → a.relation ≡ b.relation → p.relation ≡ b.relation
      just_before i a lt first same = elim (cases_lt i k) [
        | inl less ↦ groups i k (suc k) a p b less (omega arith) first before known same ∙ same
        | inr rest ↦ let last : i ≡ k = omega arith in let one : a ≡ p = same_Some a p (sym first ∙ ap (slice_get bulk) last ∙ before) in ap (λ (c : Bulk). c.relation) (sym one) ∙ same
      ]

      go : (early : Bool) → list_any (is_of_relation b.relation) (take (suc k) bulk) ≡ early → is_out_of_group (take (suc k) bulk) b.relation ≡ false
      go false none = rw none
      go true some =
          let found = Any-from_list_any (is_of_relation b.relation) (take (suc k) bulk) some in
          let shorter : length (take (suc k) bulk) ≡ suc k = length-take-le (suc k) bulk (omega arith) in
          let lt : found.0 < suc k = omega (arith, found.2, shorter) in
          let first : slice_get bulk found.0 ≡ Some found.1 =
          sym (slice_get-take bulk (suc k) found.0 lt) ∙ slice_get-get_or (take (suc k) bulk) found.0 found.1 found.2 ∙ ap (λ (c : Bulk). Some c) found.3 in
          rw (
            some,
            last_before bulk k p b before known,
            of_relation p b.relation (just_before found.0 found.1 lt first (same_relation found.1 b.relation found.4)),
          )

  pub groups_pass : AreInGroups bulk → (k : ℕ) (b : Bulk) → slice_get bulk k ≡ Some b → is_out_of_group (take k bulk) b.relation ≡ false
  groups_pass groups zero b known = refl
  groups_pass groups (suc k) b known =
      let within : suc k < length bulk = slice_get_within bulk (suc k) b known in
      passes_after groups k (get_or bulk k b) b within (slice_get-get_or bulk k b (omega arith)) known
