-- A text that is put piece by piece.
use Rattle.std.proofs.Common.{◌≡◌, ℕ, zero, suc, ◌+◌, ◌≤◌, List, [], ◌∷◌, Option, take, drop, refl, sym, ◌∙◌, ap, arith}
use Rattle.std.specs.Io.KnownBytes.{append_known}
use Rattle.std.proofs.Math.Seq.{take-add}
use Rattle.ras_outside.proofs.Taking.{append_known-append}

-- a piece behind the front that was put
pub piece-put : (old mid after : Option (List ℕ)) (text : List ℕ) (at count : ℕ) → mid ≡ append_known old (take at text) → after ≡ append_known mid (take count (drop at text))
    → after ≡ append_known old (take (at + count) text)
piece-put old mid after text at count front piece =
    piece ∙ ap (λ (w : Option (List ℕ)). append_known w (take count (drop at text))) front
    ∙ append_known-append old (take at text) (take count (drop at text)) ∙ ap (append_known old) (sym (take-add at count text))

pub front-of_front : (k n : ℕ) (xs : List ℕ) → k ≤ n → take k (take n xs) ≡ take k xs
front-of_front zero n xs le = refl
front-of_front (suc k) zero xs le = absurd (omega arith)
front-of_front (suc k) (suc n) [] le = refl
front-of_front (suc k) (suc n) (x ∷ xs) le = ap (λ (ys : List ℕ). x ∷ ys) (front-of_front k n xs (omega arith))
