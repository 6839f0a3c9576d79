-- The cells of named rows.
use Rattle.std.proofs.Common.{◌≡◌, ℕ, zero, suc, ◌+◌, ◌<◌, ◌≤◌, List, [], ◌∷◌, ◌++◌, length, get_or, min, refl, sym, ◌∙◌, ap, subst, arith, length-append}
use Rattle.std.specs.Prelude.{Option, Some, None}
use Rattle.std.proofs.lemmas.List.{get_or_append_left, get_or_at, get_or_past, get_or_push}
use Rattle.ras_logic.specs.declared.ids.RelId.{RelId}
use Rattle.ras_logic.specs.declared.values.Values.{Values}
use Rattle.ras_system.specs.declared.state.State.{State}
use Rattle.ras_system.specs.States.{rows_of, cells_of, values_at}
use Rattle.ras_steps.specs.Sights.{with_updated}

pub count_of : (s : State) (relations : List RelId) (chosen : List ℕ) → length (cells_of s relations chosen) ≡ min (length relations) (length chosen)
count_of s [] chosen = omega arith
count_of s (r ∷ relations) [] = omega arith
count_of s (r ∷ relations) (k ∷ chosen) = let rest = count_of s relations chosen in omega arith

pub row_of : (s : State) (relations : List RelId) (chosen : List ℕ) (k : ℕ) (r : RelId) → k < length relations → k < length chosen
    → get_or (cells_of s relations chosen) k [] ≡ get_or (rows_of s (get_or relations k r)) (get_or chosen k 0) []
row_of s [] chosen k r lt within = absurd (omega arith)
row_of s (q ∷ relations) [] k r lt within = absurd (omega arith)
row_of s (q ∷ relations) (c ∷ chosen) zero r lt within = refl
row_of s (q ∷ relations) (c ∷ chosen) (suc k) r lt within = row_of s relations chosen k r (omega arith) (omega arith)

-- the rows that are named, and the updated row behind them
pub named_cells : (s : State) (relations : List RelId) (chosen params : List ℕ) (o : Option (List ℕ)) (k : ℕ) (r : RelId) → k < min (length relations) (length chosen)
    → get_or (with_updated (values_at s relations chosen params) o).rows k [] ≡ get_or (rows_of s (get_or relations k r)) (get_or chosen k 0) []
named_cells s relations chosen params None k r lt = row_of s relations chosen k r (omega arith) (omega arith)
named_cells s relations chosen params (Some cells) k r lt =
    get_or_append_left (cells_of s relations chosen) (cells ∷ []) [] k (rw (count_of s relations chosen) lt) ∙ row_of s relations chosen k r (omega arith) (omega arith)

pub updated_cells : (s : State) (relations : List RelId) (chosen params : List ℕ) (o : Option (List ℕ)) (cells : List ℕ) (k : ℕ) → o ≡ Some cells
    → k ≡ min (length relations) (length chosen) → get_or (with_updated (values_at s relations chosen params) o).rows k [] ≡ cells
updated_cells s relations chosen params o cells k is e =
    ap (λ (p : Option (List ℕ)). get_or (with_updated (values_at s relations chosen params) p).rows k []) is
    ∙ get_or_at (cells_of s relations chosen) cells [] [] k (count_of s relations chosen ∙ sym e)

pub no_updated_cells : (s : State) (relations : List RelId) (chosen params : List ℕ) (o : Option (List ℕ)) (k : ℕ) → o ≡ None
    → min (length relations) (length chosen) ≤ k → get_or (with_updated (values_at s relations chosen params) o).rows k [] ≡ []
no_updated_cells s relations chosen params o k is le =
    ap (λ (p : Option (List ℕ)). get_or (with_updated (values_at s relations chosen params) p).rows k []) is
    ∙ get_or_past (cells_of s relations chosen) k [] (rw (count_of s relations chosen) le)

pub cells_behind : (s : State) (relations : List RelId) (chosen params : List ℕ) (o : Option (List ℕ)) (k : ℕ) → min (length relations) (length chosen) < k
    → get_or (with_updated (values_at s relations chosen params) o).rows k [] ≡ []
cells_behind s relations chosen params None k lt = no_updated_cells s relations chosen params None k refl (omega arith)
cells_behind s relations chosen params (Some cells) k lt =
    get_or_past (cells_of s relations chosen ++ cells ∷ []) k [] (omega (arith, length-append (cells_of s relations chosen) (cells ∷ []), count_of s relations chosen))
