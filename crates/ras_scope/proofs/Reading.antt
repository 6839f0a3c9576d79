-- Items that are read one after the other, each as its value, where all their checks pass.
use Rattle.std.proofs.Common.{◌≡◌, ℕ, ◌+◌, ◌<◌, ◌≤◌, List, [], ◌∷◌, ◌++◌, map, length, get_or, take, sym, ◌∙◌, ap, subst, arith, append_assoc, append-nil}
use Rattle.std.proofs.lemmas.List.{map-append, take_all, take_more, length-append, length-map, length-take-le}
use Rattle.ras_names.specs.Checks.{Check, for_each_from}
use Rattle.ras_names.proofs.Passing.{Passes}
use Rattle.ras_scope.specs.declared.fault.SpecError.{SpecError}
use Rattle.ras_scope.specs.Answering.{Faults}
use Rattle.ras_scope.proofs.Following.{Passed, passed_none, passed_more, passed_stop, passed_end}

pub places_more : {T A : Type 0} (place : T → A) (xs : List T) (n : ℕ) (x : T) → n < length xs → x ≡ get_or xs n x → map place (take (n + 1) xs) ≡ map place (take n xs) ++ place x ∷ []
places_more {T} place xs n x lt here =
    let more : take (n + 1) xs ≡ take n xs ++ x ∷ [] = take_more xs n x lt ∙ ap (λ (z : T). take n xs ++ z ∷ []) (sym here) in
    ap (map place) more ∙ map-append place (take n xs) (x ∷ [])

module _ {T A B : Type 0} (place : T → A) (value : A → B) (xs : List T) where
  pub values_more : (n : ℕ) (x : T) → n < length xs → x ≡ get_or xs n x → map value (map place (take (n + 1) xs)) ≡ map value (map place (take n xs)) ++ value (place x) ∷ []
  values_more n x lt here =
      ap (map value) (places_more place xs n x lt here) ∙ map-append value (map place (take n xs)) (place x ∷ [])

  pub read_more : (n : ℕ) (x : T) (ys : List B) (y : B) → n < length xs → x ≡ get_or xs n x → ys ≡ map value (map place (take n xs)) → y ≡ value (place x)
      → ys ++ y ∷ [] ≡ map value (map place (take (n + 1) xs))
  read_more n x ys y lt here read is =
      ap (λ (zs : List B). zs ++ y ∷ []) read ∙ ap (λ (z : B). map value (map place (take n xs)) ++ z ∷ []) is ∙ sym (values_more n x lt here)

  pub read_end : (n : ℕ) (ys : List B) → length xs ≤ n → ys ≡ map value (map place (take n xs)) → ys ≡ map value (map place xs)
  read_end n ys le read = read ∙ ap (λ (zs : List T). map value (map place zs)) (take_all n xs le)

-- The first n items are read, behind what was read before. The first of them has the number m.
pub record AreRead {T A B : Type 0} (m : ℕ) (checks : ℕ → A → List Check) (place : T → A) (value : A → B) (before : List B) (xs : List T) (n : ℕ) (ys : List B) : Type 0 where
  pub passed : Passed m checks place xs n
  pub read : ys ≡ before ++ map value (map place (take n xs))

module _ {T A B : Type 0} (m : ℕ) (checks : ℕ → A → List Check) (place : T → A) (value : A → B) (before : List B) (xs : List T) where
  pub none_read : (ys : List B) → ys ≡ before → AreRead m checks place value before xs 0 ys
  none_read ys same = record { passed = passed_none m checks place xs; read = same ∙ sym (append-nil before) }

  -- how many are read
  pub count_read : (n : ℕ) (ys : List B) → n ≤ length xs → AreRead m checks place value before xs n ys → length ys ≡ length before + n
  count_read n ys le h =
      let values : List B = map value (map place (take n xs)) in
      let count : length values ≡ n = length-map (map place (take n xs)) value ∙ length-map (take n xs) place ∙ length-take-le n xs le in
      let all : length ys ≡ length (before ++ values) = ap length h.read in
      let sum : length (before ++ values) ≡ length before + length values = length-append before values in omega (arith, all, sum, count)

  pub one_more : (n k : ℕ) (x : T) (ys zs : List B) (y : B) → n < length xs → x ≡ get_or xs n x → k ≡ m + n → AreRead m checks place value before xs n ys → Passes (checks k (place x))
      → zs ≡ ys ++ y ∷ [] → y ≡ value (place x) → AreRead m checks place value before xs (n + 1) zs
  one_more n k x ys zs y lt here number h pass grown is = record {
    passed = passed_more m checks place xs n x lt here h.passed (subst (λ (j : ℕ). Passes (checks j (place x))) number pass);
    read = grown ∙ ap (λ (ws : List B). ws ++ y ∷ []) h.read ∙ append_assoc before (map value (map place (take n xs))) (y ∷ [])
        ∙ ap (λ (ws : List B). before ++ ws) (ap (λ (z : B). map value (map place (take n xs)) ++ z ∷ []) is ∙ sym (values_more place value xs n x lt here));
  }

  pub one_faults : (n k : ℕ) (x : T) (ys : List B) (e : SpecError) → n < length xs → x ≡ get_or xs n x → k ≡ m + n → AreRead m checks place value before xs n ys → Faults (checks k (place x)) e
      → Faults (for_each_from m checks (map place xs)) e
  one_faults n k x ys e lt here number h fault = passed_stop m checks place xs n x e lt here h.passed (subst (λ (j : ℕ). Faults (checks j (place x)) e) number fault)

  pub all_pass : (n : ℕ) (ys : List B) → length xs ≤ n → AreRead m checks place value before xs n ys → Passes (for_each_from m checks (map place xs))
  all_pass n ys le h = passed_end m checks place xs n le h.passed

  pub all_read : (n : ℕ) (ys : List B) → length xs ≤ n → AreRead m checks place value before xs n ys → ys ≡ before ++ map value (map place xs)
  all_read n ys le h = h.read ∙ ap (λ (zs : List T). before ++ map value (map place zs)) (take_all n xs le)
