-- Two classes that become one.
use Rattle.std.proofs.Common.{◌≡◌, ◌≢◌, ℕ, zero, suc, ◌<◌, ◌≤◌, List, [], ◌∷◌, length, nat_eq, cond, refl, sym, ◌∙◌, ap, arith, ◌⊎◌, ⊎_elim}
use Rattle.std.specs.Prelude.{sum, min, max}
use Rattle.std.proofs.lemmas.List.Sums.{sum_by-cons}
use Rattle.ras_refute.specs.Classes.{class, relabelled, Unites}

class-relabelled : (from to : ℕ) (classes : List ℕ) (i : ℕ) → i < length classes → class (relabelled from to classes) i ≡ cond (nat_eq (class classes i) from) to (class classes i)
class-relabelled from to [] i lt = absurd (omega (arith, lt))
class-relabelled from to (c ∷ cs) zero lt = refl
class-relabelled from to (c ∷ cs) (suc i) lt = class-relabelled from to cs i (omega arith)

length-relabelled : (from to : ℕ) (cs : List ℕ) → length (relabelled from to cs) ≡ length cs
length-relabelled from to [] = refl
length-relabelled from to (c ∷ cs) = ap suc (length-relabelled from to cs)

-- a term's new class
relabel_cases : (from to c : ℕ) → ((c ≡ from) × (cond (nat_eq c from) to c ≡ to)) ⊎ ((c ≢ from) × (cond (nat_eq c from) to c ≡ c))
relabel_cases from to c = grind arith

sum-relabelled-le : (from to : ℕ) (classes : List ℕ) → to < from → sum (relabelled from to classes) ≤ sum classes
sum-relabelled-le from to [] lt = omega arith
sum-relabelled-le from to (c ∷ cs) lt =
    let rest = sum-relabelled-le from to cs lt in
    let new = sum_by-cons (λ (x : ℕ). x) (cond (nat_eq c from) to c) (relabelled from to cs) in
    let old = sum_by-cons (λ (x : ℕ). x) c cs in
    ⊎_elim (λ (h : (c ≡ from) × (cond (nat_eq c from) to c ≡ to)). omega (arith, rest, new, old, h.0, h.1))
    (λ (h : (c ≢ from) × (cond (nat_eq c from) to c ≡ c)). omega (arith, rest, new, old, h.1)) (relabel_cases from to c)

-- a class that gets a smaller number makes the sum of the numbers smaller
sum-relabelled : (from to : ℕ) (classes : List ℕ) (i : ℕ) → i < length classes → class classes i ≡ from → to < from → sum (relabelled from to classes) < sum classes
sum-relabelled from to [] i lt e less = absurd (omega (arith, lt))
sum-relabelled from to (c ∷ cs) zero lt e less =
    let rest = sum-relabelled-le from to cs less in
    let new = sum_by-cons (λ (x : ℕ). x) (cond (nat_eq c from) to c) (relabelled from to cs) in
    let old = sum_by-cons (λ (x : ℕ). x) c cs in
    ⊎_elim (λ (h : (c ≡ from) × (cond (nat_eq c from) to c ≡ to)). omega (arith, rest, new, old, h.0, h.1))
    (λ (h : (c ≢ from) × (cond (nat_eq c from) to c ≡ c)). absurd (h.0 e)) (relabel_cases from to c)
sum-relabelled from to (c ∷ cs) (suc i) lt e less =
    let rest = sum-relabelled from to cs i (omega arith) e less in
    let new = sum_by-cons (λ (x : ℕ). x) (cond (nat_eq c from) to c) (relabelled from to cs) in
    let old = sum_by-cons (λ (x : ℕ). x) c cs in
    ⊎_elim (λ (h : (c ≡ from) × (cond (nat_eq c from) to c ≡ to)). omega (arith, rest, new, old, h.0, h.1))
    (λ (h : (c ≢ from) × (cond (nat_eq c from) to c ≡ c)). omega (arith, rest, new, old, h.1)) (relabel_cases from to c)

-- numbers that become one were one, or the two that were united
joined_cases : (x y p q : ℕ) → cond (nat_eq x (max p q)) (min p q) x ≡ cond (nat_eq y (max p q)) (min p q) y
    → (x ≡ y) ⊎ (((x ≡ p) × (y ≡ q)) ⊎ ((x ≡ q) × (y ≡ p)))
joined_cases x y p q e = grind arith

-- no number gets larger
lower_cases : (x p q : ℕ) → cond (nat_eq x (max p q)) (min p q) x ≤ x
lower_cases x p q = grind arith

-- the larger of two different numbers is one of them
larger_cases : (p q : ℕ) → p ≢ q → (min p q < max p q) × ((p ≡ max p q) ⊎ (q ≡ max p q))
larger_cases p q differ = grind arith

pub relabelled-unites : (classes : List ℕ) (a b : ℕ) → a < length classes → b < length classes
    → Unites classes (relabelled (max (class classes a) (class classes b)) (min (class classes a) (class classes b)) classes) a b
relabelled-unites classes a b lt_a lt_b =
    let from : ℕ = max (class classes a) (class classes b) in
    let to : ℕ = min (class classes a) (class classes b) in
    record {
      as_many = length-relabelled from to classes;
      lower = λ i lt. rw (class-relabelled from to classes i lt) (lower_cases (class classes i) (class classes a) (class classes b));
      smaller = λ differ. let l = larger_cases (class classes a) (class classes b) differ in
          ⊎_elim (λ (h : class classes a ≡ from). sum-relabelled from to classes a lt_a h l.0) (λ (h : class classes b ≡ from). sum-relabelled from to classes b lt_b h l.0) l.1;
      only = λ i j lt_i lt_j e. joined_cases (class classes i) (class classes j) (class classes a) (class classes b)
          (sym (class-relabelled from to classes i lt_i) ∙ e ∙ class-relabelled from to classes j lt_j);
    }
