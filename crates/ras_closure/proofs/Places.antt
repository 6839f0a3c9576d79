-- Places in a table over pairs.
use Rattle.std.proofs.Common.{◌≡◌, ◌≢◌, ℕ, ◌+◌, ◌*◌, ◌/◌, ◌%◌, ◌<◌, Bool, true, false, List, length, get_or, arith, sym, ap, ◌∙◌, refl, ◌⊎◌, inl, inr, ⊎_elim, set, get_or-set_other, get_or-set_same}
use Rattle.std.proofs.Math.Nat.{mul_comm}
use Rattle.std.proofs.lemmas.Nat.{mul-add-lt, div-mul-add, mod-mul-add}
use Rattle.ras_closure.specs.Assertions.{MarkParts, is_marked, AddsMark}

pub place-below : (i j h w : ℕ) → i < h → j < w → i * w + j < h * w
place-below i j h w lt_i lt_j = rw (mul_comm h w) (mul-add-lt i w j h lt_i lt_j)

pub place-same : (i j k l w : ℕ) → j < w → l < w → i * w + j ≡ k * w + l → (i ≡ k) × (j ≡ l)
place-same i j k l w lt_j lt_l e =
    (sym (div-mul-add i w j lt_j) ∙ ap (λ (x : ℕ). x / w) e ∙ div-mul-add k w l lt_l, sym (mod-mul-add i w j lt_j) ∙ ap (λ (x : ℕ). x % w) e ∙ mod-mul-add k w l lt_l)

-- a place after one was set
set-at : (xs : List Bool) (at k : ℕ) → at < length xs → (get_or (set xs at true) at false ≡ true) × (get_or xs k false ≡ true → get_or (set xs at true) k false ≡ true)
    × (get_or (set xs at true) k false ≡ true → (get_or xs k false ≡ true) ⊎ (k ≡ at))
set-at xs at k lt = (
  get_or-set_same xs at true false lt,
  ⊎_elim (λ (h : k ≡ at). λ _. rw (h, get_or-set_same xs at true false lt) refl) (λ (h : k ≢ at). λ e. rw (get_or-set_other xs at k true false h) e) (equal_or k at),
  λ e. ⊎_elim (λ (h : k ≡ at). inr h) (λ (h : k ≢ at). inl (rw (← get_or-set_other xs at k true false h) e)) (equal_or k at),
)
  where
    equal_or : (a b : ℕ) → (a ≡ b) ⊎ (a ≢ b)
    equal_or a b = grind arith

pub adds-same : (m : MarkParts) (i j : ℕ) → length m.same ≡ m.width * m.width → i < m.width → j < m.width
    → AddsMark m (record m { same = set m.same (i * m.width + j) true }) true i j
adds-same m i j long lt_i lt_j =
    let lt : i * m.width + j < length m.same = rw long (place-below i j m.width m.width lt_i lt_j) in
    record {
      width = refl;
      here = (set-at m.same (i * m.width + j) 0 lt).0;
      kept = λ b k l e. kept b k l e lt;
      only = λ b k l lt_k lt_l e. only b k l lt_k lt_l e lt;
    }
  where
    kept : (b : Bool) (k l : ℕ) → is_marked m b k l ≡ true → i * m.width + j < length m.same → is_marked (record m { same = set m.same (i * m.width + j) true }) b k l ≡ true
    kept true k l e lt = (set-at m.same (i * m.width + j) (k * m.width + l) lt).1 e
    kept false k l e lt = e

    only : (b : Bool) (k l : ℕ) → k < m.width → l < m.width → is_marked (record m { same = set m.same (i * m.width + j) true }) b k l ≡ true → i * m.width + j < length m.same
        → (is_marked m b k l ≡ true) ⊎ ((b ≡ true) × (k ≡ i) × (l ≡ j))
    only true k l lt_k lt_l e lt =
        ⊎_elim (λ h. inl h) (λ (h : k * m.width + l ≡ i * m.width + j). let p = place-same k l i j m.width lt_l lt_j h in inr (refl, p.0, p.1)) ((set-at m.same (i * m.width + j) (k * m.width + l) lt).2 e)
    only false k l lt_k lt_l e lt = inl e

pub adds-apart : (m : MarkParts) (i j : ℕ) → length m.apart ≡ m.width * m.width → i < m.width → j < m.width
    → AddsMark m (record m { apart = set m.apart (i * m.width + j) true }) false i j
adds-apart m i j long lt_i lt_j =
    let lt : i * m.width + j < length m.apart = rw long (place-below i j m.width m.width lt_i lt_j) in
    record {
      width = refl;
      here = (set-at m.apart (i * m.width + j) 0 lt).0;
      kept = λ b k l e. kept b k l e lt;
      only = λ b k l lt_k lt_l e. only b k l lt_k lt_l e lt;
    }
  where
    kept : (b : Bool) (k l : ℕ) → is_marked m b k l ≡ true → i * m.width + j < length m.apart → is_marked (record m { apart = set m.apart (i * m.width + j) true }) b k l ≡ true
    kept false k l e lt = (set-at m.apart (i * m.width + j) (k * m.width + l) lt).1 e
    kept true k l e lt = e

    only : (b : Bool) (k l : ℕ) → k < m.width → l < m.width → is_marked (record m { apart = set m.apart (i * m.width + j) true }) b k l ≡ true → i * m.width + j < length m.apart
        → (is_marked m b k l ≡ true) ⊎ ((b ≡ false) × (k ≡ i) × (l ≡ j))
    only false k l lt_k lt_l e lt =
        ⊎_elim (λ h. inl h) (λ (h : k * m.width + l ≡ i * m.width + j). let p = place-same k l i j m.width lt_l lt_j h in inr (refl, p.0, p.1)) ((set-at m.apart (i * m.width + j) (k * m.width + l) lt).2 e)
    only true k l lt_k lt_l e lt = inl e

pub note-same : (m : MarkParts) (same : Bool) (at i j : ℕ) → same ≡ true → at ≡ i * m.width + j → length m.same ≡ m.width * m.width → i < m.width → j < m.width
    → AddsMark m (record m { same = set m.same at true }) same i j
note-same m same at i j e place long lt_i lt_j = rw (e, place) (adds-same m i j long lt_i lt_j)

pub note-apart : (m : MarkParts) (same : Bool) (at i j : ℕ) → same ≡ false → at ≡ i * m.width + j → length m.apart ≡ m.width * m.width → i < m.width → j < m.width
    → AddsMark m (record m { apart = set m.apart at true }) same i j
note-apart m same at i j e place long lt_i lt_j = rw (e, place) (adds-apart m i j long lt_i lt_j)
