-- Lists in an order, and lists of numbers in lexicographic order.
use Rattle.std.proofs.Common.{◌≡◌, ℕ, zero, suc, ◌+◌, ◌<◌, ◌≤◌, List, [], ◌∷◌, ◌++◌, length, get_or, take, refl, sym, ◌∙◌, ap, subst, arith, ◌⊎◌, ⊎_elim, length-append}
use Rattle.std.specs.Prelude.{All, AllPairs}
use Rattle.std.proofs.lemmas.List.{get_or_append_left, get_or_push, get_or-take}
use Rattle.std.proofs.lemmas.List.Elements.{All-head, All-tail, All-append}
use Rattle.std.proofs.lemmas.List.Kept.{AllPairs-cons}
use Rattle.ras_steps.specs.Choosing.{ComesBefore}

pairs-nil : {A : Type 0} (R : A → A → Type 0) → AllPairs R []
pairs-nil R i j d lt within = absurd (omega (arith, within))

pairs-head : {A : Type 0} (R : A → A → Type 0) (x : A) (xs : List A) → AllPairs R (x ∷ xs) → All (R x) xs
pairs-head R x xs h k d lt = h 0 (suc k) d (omega arith) (omega (arith, lt))

pairs-tail : {A : Type 0} (R : A → A → Type 0) (x : A) (xs : List A) → AllPairs R (x ∷ xs) → AllPairs R xs
pairs-tail R x xs h i j d lt within = h (suc i) (suc j) d (omega (arith, lt)) (omega (arith, within))

-- two lists in an order, all of the first before all of the second
pub pairs-append : {A : Type 0} (R : A → A → Type 0) (xs ys : List A) → AllPairs R xs → AllPairs R ys → All (λ x. All (R x) ys) xs → AllPairs R (xs ++ ys)
pairs-append R [] ys h k across = k
pairs-append R (x ∷ xs) ys h k across =
    AllPairs-cons R x (xs ++ ys) (All-append (R x) xs ys (pairs-head R x xs h) (All-head (λ y. All (R y) ys) x xs across))
    (pairs-append R xs ys (pairs-tail R x xs h) k (All-tail (λ y. All (R y) ys) x xs across))

take-left : {A : Type 0} (n : ℕ) (xs ys : List A) → n ≤ length xs → take n (xs ++ ys) ≡ take n xs
take-left zero xs ys le = refl
take-left (suc n) [] ys le = absurd (omega (arith, le))
take-left (suc n) (x ∷ xs) ys le = ap (λ zs. x ∷ zs) (take-left n xs ys (omega (arith, le)))

-- lists of one length stay in order where more is put behind them
pub before-longer : (these those more others : List ℕ) → length these ≡ length those → ComesBefore these those → ComesBefore (these ++ more) (those ++ others)
before-longer these those more others same b = record {
  place = b.place;
  within = omega (arith, b.within, length-append these more);
  same = take-left b.place these more (omega (arith, b.within)) ∙ b.same ∙ sym (take-left b.place those others (omega (arith, b.within, same)));
  smaller = rw (get_or_append_left these more 0 b.place b.within, get_or_append_left those others 0 b.place (omega (arith, b.within, same))) b.smaller;
}

-- behind one list a smaller number comes before a larger one
pub before-last : (map : List ℕ) (k l : ℕ) → k < l → ComesBefore (map ++ k ∷ []) (map ++ l ∷ [])
before-last map k l lt = record {
  place = length map;
  within = omega (arith, length-append map (k ∷ []));
  same = take-left (length map) map (k ∷ []) (omega arith) ∙ sym (take-left (length map) map (l ∷ []) (omega arith));
  smaller = rw (get_or_push map k 0 (length map) refl, get_or_push map l 0 (length map) refl) lt;
}

pub place_order : (i j : ℕ) → (i ≡ j) ⊎ ((i < j) ⊎ (j < i))
place_order i j = grind arith

same-before : (n : ℕ) (these those : List ℕ) (k : ℕ) → take n these ≡ take n those → k < n → get_or these k 0 ≡ get_or those k 0
same-before n these those k same lt = sym (get_or-take n these k 0 lt) ∙ ap (λ (xs : List ℕ). get_or xs k 0) same ∙ get_or-take n those k 0 lt

-- of two lists at most one comes before the other
pub before-one_way : (these those : List ℕ) → ComesBefore these those → ComesBefore those these → ⊥
before-one_way these those b c =
    ⊎_elim (λ (e : b.place ≡ c.place). let h : get_or those b.place 0 < get_or these b.place 0 = subst (λ (k : ℕ). get_or those k 0 < get_or these k 0) (sym e) c.smaller in omega (arith, h, b.smaller))
    (⊎_elim (λ (lt : b.place < c.place). let e = same-before c.place those these b.place c.same lt in omega (arith, e, b.smaller))
    (λ (lt : c.place < b.place). let e = same-before b.place these those c.place b.same lt in omega (arith, e, c.smaller))) (place_order b.place c.place)

-- a number below the next one
pub place_cases : (i n : ℕ) → i < n + 1 → (i < n) ⊎ (i ≡ n)
place_cases i n lt = grind arith
