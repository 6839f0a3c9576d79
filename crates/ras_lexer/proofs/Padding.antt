-- A name that was copied over zeros.
use Rattle.std.proofs.Common.{◌≡◌, ℕ, ◌-◌, ◌<◌, ◌≤◌, List, ◌++◌, length, drop, replicate, refl, ap, sym, subst, ◌∙◌, arith}
use Rattle.std.proofs.lemmas.List.{take_at, drop-replicate, length-append, length-replicate}
use Rattle.ras_lexer.specs.Texts.{IsPadded, padded}

padded_is : (name : List ℕ) → 0 < length name → length name ≤ 64 → IsPadded (padded name)
padded_is name some most = record {
  some = some;
  most = most;
  whole = omega (arith, length-append name (replicate (64 - length name) 0), length-replicate {A = ℕ} (64 - length name) 0);
  rest = ap (λ (l : List ℕ). l ++ replicate (64 - length name) 0) (sym (take_at name (replicate (64 - length name) 0) (length name) refl));
}

pub copied_is : (bytes name : List ℕ) → bytes ≡ name → 0 < length name → length name ≤ 64
    → IsPadded (record { bytes = bytes ++ drop (length name) (replicate 64 0); length = length name })
copied_is bytes name e some most =
    subst (λ (l : List ℕ). IsPadded (record { bytes = l; length = length name }))
    (ap (λ (l : List ℕ). l ++ replicate (64 - length name) 0) (sym e) ∙ ap (λ (l : List ℕ). bytes ++ l) (sym (drop-replicate (length name) 64 0)))
    (padded_is name some most)
