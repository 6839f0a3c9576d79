-- Rows chosen for those of a formula.
use Rattle.std.proofs.Common.{◌≡◌, ℕ, zero, suc, ◌+◌, ◌<◌, ◌≤◌, ◌^◌, List, [], ◌∷◌, length, get_or, refl, sym, ◌∙◌, ap, arith, ◌⊎◌, ⊎_elim, below_more}
use Rattle.std.specs.Prelude.{slice_get, Some, All}
use Rattle.std.specs.List.{AllZip}
use Rattle.std.proofs.lemmas.Option.{slice_get-get_or, slice_get_within}
use Rattle.std.proofs.lemmas.List.Elements.{All-from_get_or}
use Rattle.ras_logic.specs.declared.ids.RelId.{RelId}
use Rattle.ras_logic.specs.Refutations.{AreRowsOf}

-- the chosen rows below a place are of the formula's relations, and different
pub record AreChosen (premise formula : List RelId) (chosen : List ℕ) (n : ℕ) : Type 0 where
  pub relations : (j : ℕ) → j < n → slice_get premise (get_or chosen j 0) ≡ slice_get formula j
  pub different : (i j : ℕ) → i < n → j < i → get_or chosen j 0 ≡ get_or chosen i 0 → ⊥

abbrev HasRelations : List RelId → List RelId → List ℕ → Type 0
HasRelations premise formula chosen = AllZip (λ (r : RelId) (k : ℕ). slice_get premise k ≡ Some r) formula chosen

relations-from : (premise formula : List RelId) (chosen : List ℕ) → length chosen ≡ length formula
    → ((j : ℕ) → j < length chosen → slice_get premise (get_or chosen j 0) ≡ slice_get formula j) → HasRelations premise formula chosen
relations-from premise [] [] long h = tt
relations-from premise [] (k ∷ ks) long h = absurd (omega (arith, long))
relations-from premise (r ∷ rs) [] long h = absurd (omega (arith, long))
relations-from premise (r ∷ rs) (k ∷ ks) long h =
    (h 0 (omega arith), relations-from premise rs ks (omega (arith, long)) (λ j lt. h (suc j) (omega (arith, lt))))

relations-at : (premise formula : List RelId) (chosen : List ℕ) → HasRelations premise formula chosen → (j : ℕ) → j < length chosen
    → slice_get premise (get_or chosen j 0) ≡ slice_get formula j
relations-at premise [] [] h j lt = absurd (omega (arith, lt))
relations-at premise [] (k ∷ ks) h j lt = absurd h
relations-at premise (r ∷ rs) [] h j lt = absurd h
relations-at premise (r ∷ rs) (k ∷ ks) h zero lt = h.0
relations-at premise (r ∷ rs) (k ∷ ks) h (suc j) lt = relations-at premise rs ks h.1 j (omega (arith, lt))

relations-long : (premise formula : List RelId) (chosen : List ℕ) → HasRelations premise formula chosen → length chosen ≡ length formula
relations-long premise [] [] h = refl
relations-long premise [] (k ∷ ks) h = absurd h
relations-long premise (r ∷ rs) [] h = absurd h
relations-long premise (r ∷ rs) (k ∷ ks) h = ap suc (relations-long premise rs ks h.1)

order_cases : (i j : ℕ) → (i ≡ j) ⊎ ((i < j) ⊎ (j < i))
order_cases i j = grind arith

-- as many rows, all of them fitting
pub rows-from : (premise formula : List RelId) (chosen : List ℕ) (n : ℕ) → n ≡ length chosen → length chosen ≡ length formula → AreChosen premise formula chosen n
    → AreRowsOf premise formula chosen
rows-from premise formula chosen n e long are = record {
  relations = relations-from premise formula chosen long (λ j lt. are.relations j (omega (arith, lt, e)));
  different = λ i j lt_i lt_j same.
      ⊎_elim (λ (h : i ≡ j). h)
      (⊎_elim (λ (h : i < j). absurd (are.different j i (omega (arith, lt_j, e)) h same)) (λ (h : j < i). absurd (are.different i j (omega (arith, lt_i, e)) h (sym same))))
      (order_cases i j);
}

pub rows-long : (premise formula : List RelId) (chosen : List ℕ) → AreRowsOf premise formula chosen → length chosen ≡ length formula
rows-long premise formula chosen of = relations-long premise formula chosen of.relations

-- a row of another relation, or of none
pub rows-wrong : (premise formula : List RelId) (chosen : List ℕ) (k : ℕ) → k < length chosen → (slice_get premise (get_or chosen k 0) ≡ slice_get formula k → ⊥)
    → AreRowsOf premise formula chosen → ⊥
rows-wrong premise formula chosen k lt wrong of = wrong (relations-at premise formula chosen of.relations k lt)

-- a row that was chosen before
pub rows-repeated : (premise formula : List RelId) (chosen : List ℕ) (k : ℕ) → k < length chosen → (j : ℕ) × (j < k) × (get_or chosen j 0 ≡ get_or chosen k 0)
    → AreRowsOf premise formula chosen → ⊥
rows-repeated premise formula chosen k lt h of =
    let same : h.0 ≡ k = of.different h.0 k (omega (arith, lt, h.1)) lt h.2 in
    absurd (omega (arith, same, h.1))

-- one more row that fits
pub chosen-more : (premise formula : List RelId) (chosen : List ℕ) (k : ℕ) → AreChosen premise formula chosen k → slice_get premise (get_or chosen k 0) ≡ slice_get formula k
    → ((j : ℕ) × (j < k) × (get_or chosen j 0 ≡ get_or chosen k 0) → ⊥) → AreChosen premise formula chosen (k + 1)
chosen-more premise formula chosen k are here fresh = record {
  relations = below_more (λ (j : ℕ). slice_get premise (get_or chosen j 0) ≡ slice_get formula j) k are.relations here;
  different = λ i j lt less same.
      ⊎_elim (λ (h : i < k). are.different i j h less same)
      (λ (h : i ≡ k). fresh (j, omega (arith, less, h), same ∙ ap (λ (n : ℕ). get_or chosen n 0) h))
      (more_cases i k lt);
}
  where
    more_cases : (i k : ℕ) → i < k + 1 → (i < k) ⊎ (i ≡ k)
    more_cases i k lt = grind arith

-- the chosen rows are few enough for 16 bits
pub rows-small : (premise formula : List RelId) (chosen : List ℕ) → length premise ≤ 65535 → AreRowsOf premise formula chosen → All (λ k. k < 2 ^ 16) chosen
rows-small premise formula chosen few of = All-from_get_or (λ k. k < 2 ^ 16) chosen 0 (λ j lt.
    let r : RelId = get_or formula j (record { n = 0 }) in
    let at : slice_get premise (get_or chosen j 0) ≡ Some r =
    relations-at premise formula chosen of.relations j lt ∙ slice_get-get_or formula j (record { n = 0 }) (omega (arith, lt, relations-long premise formula chosen of.relations)) in
    let within = slice_get_within premise (get_or chosen j 0) r at in
    omega (arith, within, few))
