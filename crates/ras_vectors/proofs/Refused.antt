-- How what does not fit is refused.
use Rattle.std.proofs.Common.{◌≡◌, ℕ, ap, sym, ◌∙◌}
use Rattle.std.specs.Prelude.{Some, None}
use Rattle.ras_logic.specs.declared.ids.SortId.{SortId}
use Rattle.ras_vectors.specs.Words.{sort}

pub no_sort : (s : SortId) → None ≡ Some s → ⊥
no_sort s e = cc

number : (s t : SortId) → Some s ≡ Some t → s.n ≡ t.n
number s t e = let q : s ≡ t = cc in ap (λ (x : SortId). x.n) q

pub two_sorts : (a b : ℕ) → (a ≡ b → ⊥) → (s : SortId) → Some (sort a) ≡ Some s → Some (sort b) ≡ Some s → ⊥
two_sorts a b differ s one other = differ (number (sort a) (sort b) (one ∙ sym other))
