-- The elements of variables, cells and data parameters, found among the terms.
use Rattle.std.proofs.Common.{◌≡◌, ◌≢◌, ℕ, ◌+◌, ◌<◌, List, [], ◌∷◌, length, get_or, set, refl, sym, ◌∙◌, ap, subst, arith, ◌⊎◌, inl, inr, ⊎_elim, get_or-set_other, get_or-set_same}
use Rattle.std.proofs.lemmas.Option.{slice_get_within}
use Rattle.std.proofs.Math.ListN.{length-set}
use Rattle.ras_logic.specs.declared.ids.FunId.{FunId}
use Rattle.ras_logic.specs.declared.ids.VarId.{VarId}
use Rattle.ras_logic.specs.declared.term.Base.{Base}
use Rattle.ras_logic.specs.declared.term.Term.{Term}
use Rattle.ras_logic.specs.Terms.{base_term}
use Rattle.ras_closure.specs.declared.values.Bases.{Bases}
use Rattle.ras_closure.specs.declared.values.Bases.TheVariants.{Vars, Cells, Params}
use Rattle.ras_closure.specs.Numbered.{IsAt}
use Rattle.ras_closure.specs.Values.{IsElementOf, AreElementsOf, AreElementsTo, base_of}
use Rattle.ras_closure.specs.Elements.{number}
use Rattle.ras_closure.proofs.Merges.{at-same}
use Rattle.ras_closure.proofs.Cases.{below_or_same, same_or}

pub base_of-same : (bases : Bases) (k l : ℕ) → base_of bases k ≡ base_of bases l → k ≡ l
base_of-same Vars k l e =
    let x : VarId = record { n = k } in
    let y : VarId = record { n = l } in
    let same : x ≡ y = cc in
    ap (λ (v : VarId). v.n) same
base_of-same (Cells row) k l e = cc
base_of-same Params k l e = cc

module _ (terms : List Term) (numbers : List ℕ) (base : ℕ → Base) (total n : ℕ) (xs : List ℕ) (so_far : AreElementsTo terms numbers base total n xs) where
  -- the term n is not the base
  abbrev Found : List ℕ → ℕ → ℕ → Type 0
  Found ys m k = ((i : ℕ) × (i < m) × IsAt terms i (base_term (base k)) × (get_or ys k 0 ≡ number numbers i)) ⊎ (((i : ℕ) → i < m → IsAt terms i (base_term (base k)) → ⊥) × (get_or ys k 0 ≡ 0))

  other : (k : ℕ) → (IsAt terms n (base_term (base k)) → ⊥) → Found xs n k → Found xs (n + 1) k
  other k absent (inl h) = inl (h.0, omega (arith, h.1), h.2, h.3)
  other k absent (inr h) = inr (λ i lt at. ⊎_elim (λ (b : i < n). h.0 i b at) (λ (e : i ≡ n). absent (subst (λ (m : ℕ). IsAt terms m (base_term (base k))) e at)) (below_or_same i n lt), h.1)

  pub elements-skip : ((k : ℕ) → k < total → IsAt terms n (base_term (base k)) → ⊥) → AreElementsTo terms numbers base total (n + 1) xs
  elements-skip absent = record { as_many = so_far.as_many; each = λ k lt. other k (absent k lt) (so_far.each k lt) }

  pub elements-put : (at : ℕ) → at < total → IsAt terms n (base_term (base at)) → ((k : ℕ) → base k ≡ base at → k ≡ at) → AreElementsTo terms numbers base total (n + 1) (set xs at (number numbers n))
  elements-put at lt_at here injective = record {
    as_many = length-set xs at (number numbers n) ∙ so_far.as_many;
    each = λ k lt.
        ⊎_elim
        (λ (e : k ≡ at). inl (
          n,
          omega arith,
          subst (λ (m : ℕ). IsAt terms n (base_term (base m))) (sym e) here,
          ap (λ (m : ℕ). get_or (set xs at (number numbers n)) m 0) e ∙ get_or-set_same xs at (number numbers n) 0 (rw so_far.as_many lt_at),
        ))
        (λ (h : k ≢ at). subst (λ (y : ℕ). ((i : ℕ) × (i < n + 1) × IsAt terms i (base_term (base k)) × (y ≡ number numbers i)) ⊎ (((i : ℕ) → i < n + 1 → IsAt terms i (base_term (base k)) → ⊥) × (y ≡ 0)))
        (sym (get_or-set_other xs at k (number numbers n) 0 h))
        (other k (λ there. h (injective k (ap (λ (s : Term). s.base) (at-same terms n (base_term (base k)) (base_term (base at)) there here)))) (so_far.each k lt)))
        (same_or k at);
  }

pub elements-none : (terms : List Term) (numbers : List ℕ) (base : ℕ → Base) (total : ℕ) (xs : List ℕ) → length xs ≡ total → ((k : ℕ) → k < total → get_or xs k 0 ≡ 0)
    → AreElementsTo terms numbers base total 0 xs
elements-none terms numbers base total xs long zero = record { as_many = long; each = λ k lt. inr (λ i lt_i at. omega (arith, lt_i), zero k lt) }

pub elements-all : (terms : List Term) (numbers : List ℕ) (base : ℕ → Base) (total n : ℕ) (xs : List ℕ) → n ≡ length terms → AreElementsTo terms numbers base total n xs
    → AreElementsOf terms (number numbers) base total xs
elements-all terms numbers base total n xs all found = record { as_many = found.as_many; each = λ k lt. go k (found.each k lt) }
  where
    go : (k : ℕ) → ((i : ℕ) × (i < n) × IsAt terms i (base_term (base k)) × (get_or xs k 0 ≡ number numbers i)) ⊎ (((i : ℕ) → i < n → IsAt terms i (base_term (base k)) → ⊥) × (get_or xs k 0 ≡ 0))
        → IsElementOf terms (number numbers) (base k) (get_or xs k 0)
    go k (inl h) = inl (h.0, h.2, h.3)
    go k (inr h) = inr (λ i at. h.0 i (rw all (slice_get_within terms i (base_term (base k)) at)) at, h.1)

-- a term with a path is no base
pub no_base : (terms : List Term) (i : ℕ) (s : Term) (b : Base) → IsAt terms i s → 0 < length s.path → IsAt terms i (base_term b) → ⊥
no_base terms i s b at long here = let e = at-same terms i s (base_term b) at here in omega (arith, long, ap (λ (u : Term). length u.path) e)

-- a term without a path is its base
pub whole_base : (s : Term) → length s.path ≡ 0 → s ≡ base_term s.base
whole_base s e = go s.path refl
  where
    go : (p : List FunId) → s.path ≡ p → s ≡ base_term s.base
    go [] is = ap (λ (p : List FunId). let u : Term = record { base = s.base; path = p } in u) is
    go (f ∷ p) is = absurd (omega (arith, e, ap (λ (q : List FunId). length q) is))
