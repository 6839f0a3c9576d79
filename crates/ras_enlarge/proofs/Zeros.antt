-- One element in a sort that has none.
use Rattle.std.proofs.Common.{◌≡◌, ◌≢◌, ℕ, zero, suc, ◌+◌, ◌<◌, ◌≤◌, List, [], ◌∷◌, length, get_or, set, sym, ◌∙◌, ap, arith, ◌⊎◌, ⊎_elim, get_or-set_other, get_or-set_same}
use Rattle.std.specs.Prelude.{slice_get, Some, true}
use Rattle.ras_logic.specs.declared.ids.FunId.{FunId}
use Rattle.ras_logic.specs.declared.ids.SortId.{SortId}
use Rattle.ras_logic.specs.declared.function.FunDecl.{FunDecl}
use Rattle.ras_closure.specs.Numbered.{TableParts}
use Rattle.ras_closure.proofs.Cases.{same_or}
use Rattle.ras_enlarge.specs.Numbers.{size_in, IsEmptyTarget}

-- how many sorts have no element
abbrev pub zeros : List ℕ → ℕ
zeros [] = 0
zeros (zero ∷ sizes) = zeros sizes + 1
zeros (suc n ∷ sizes) = zeros sizes

zeros-set : (sizes : List ℕ) (k : ℕ) → k < length sizes → get_or sizes k 0 ≡ 0 → zeros (set sizes k 1) < zeros sizes
zeros-set [] k lt e = absurd (omega (arith, lt))
zeros-set (zero ∷ sizes) zero lt e = omega arith
zeros-set (suc n ∷ sizes) zero lt e = absurd (omega (arith, e))
zeros-set (zero ∷ sizes) (suc k) lt e = let h = zeros-set sizes k (omega (arith, lt)) e in omega (arith, h)
zeros-set (suc n ∷ sizes) (suc k) lt e = zeros-set sizes k (omega (arith, lt)) e

pub fewer-zeros : (sizes : List ℕ) (s : SortId) → IsEmptyTarget sizes s → zeros (set sizes s.n 1) < zeros sizes
fewer-zeros sizes s empty = zeros-set sizes s.n empty.known empty.empty

pub one-more : (sizes : List ℕ) (s : SortId) → IsEmptyTarget sizes s → (t : SortId) → size_in sizes t ≤ size_in (set sizes s.n 1) t
one-more sizes s empty t =
    ⊎_elim
    (λ (here : t.n ≡ s.n).
    let a : size_in sizes t ≡ 0 = ap (λ (m : ℕ). get_or sizes m 0) here ∙ empty.empty in omega (arith, a))
    (λ (other : t.n ≢ s.n). let a = get_or-set_other sizes s.n t.n 1 0 other in omega (arith, a)) (same_or t.n s.n)

-- of the first n functions
abbrev pub AreFilledTo : TableParts → ℕ → (SortId → ℕ) → Type 0
AreFilledTo t n size = (f : FunId) (decl : FunDecl) → f.n < n → slice_get t.shape.schema.functions f.n ≡ Some decl → decl.total ≡ true
    → 0 < size decl.source → 0 < size decl.target
