-- The cells of rows, one row after the other.
use Rattle.std.proofs.Common.{◌≡◌, ℕ, zero, suc, ◌+◌, ◌<◌, List, [], ◌∷◌, ◌++◌, length, take, get_or, refl, sym, ap, ◌∙◌, arith}
use Rattle.ras_logic.specs.declared.ids.RelId.{RelId}
use Rattle.ras_system.specs.declared.state.State.{State}
use Rattle.ras_system.specs.States.{rows_of, cells_of}

more-rows : (s : State) (relations : List RelId) (chosen : List ℕ) (r : RelId) (k i : ℕ) → i < length relations → length chosen ≡ length relations
    → cells_of s (take (suc i) relations) (take (suc i) chosen)
    ≡ cells_of s (take i relations) (take i chosen) ++ get_or (rows_of s (get_or relations i r)) (get_or chosen i k) [] ∷ []
more-rows s [] chosen r k i lt same = absurd (omega (arith, lt))
more-rows s (q ∷ relations) [] r k i lt same = absurd (omega (arith, same))
more-rows s (q ∷ relations) (n ∷ chosen) r k zero lt same = refl
more-rows s (q ∷ relations) (n ∷ chosen) r k (suc i) lt same =
    ap (λ (rest : List (List ℕ)). get_or (rows_of s q) n [] ∷ rest) (more-rows s relations chosen r k i (omega (arith, lt)) (omega (arith, same)))

-- one row more was copied
pub row-copied : (s : State) (relations : List RelId) (chosen : List ℕ) (r : RelId) (k i : ℕ) (rows after : List (List ℕ)) (cells : List ℕ) → i < length relations → length chosen ≡ length relations
    → rows ≡ cells_of s (take i relations) (take i chosen) → cells ≡ get_or (rows_of s (get_or relations i r)) (get_or chosen i k) [] → after ≡ rows ++ cells ∷ []
    → after ≡ cells_of s (take (i + 1) relations) (take (i + 1) chosen)
row-copied s relations chosen r k i rows after cells lt same before is push =
    let next : i + 1 ≡ suc i = omega arith in
    push ∙ ap (λ (x : List (List ℕ)). x ++ cells ∷ []) before ∙ ap (λ (x : List ℕ). cells_of s (take i relations) (take i chosen) ++ x ∷ []) is
    ∙ sym (more-rows s relations chosen r k i lt same) ∙ sym (ap (λ (n : ℕ). cells_of s (take n relations) (take n chosen)) next)
