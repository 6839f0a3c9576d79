-- The turns of a loop over all items of a list, whose checks begin at the number 0.
use Rattle.std.proofs.Common.{◌≡◌, ℕ, ◌+◌, ◌<◌, ◌≤◌, List, length, get_or, map, subst, arith}
use Rattle.ras_names.specs.Checks.{Check, for_each}
use Rattle.ras_names.proofs.Passing.{Passes}
use Rattle.ras_scope.specs.declared.fault.SpecError.{SpecError}
use Rattle.ras_scope.specs.Answering.{Faults}
use Rattle.ras_scope.proofs.Following.{Passed, passed_none, passed_more, passed_stop, passed_end}

-- a list that is the same as another
pub turn_within : {T : Type 0} (xs ys : List T) (i : ℕ) → xs ≡ ys → i < length xs → i < length ys
turn_within {T} xs ys i same lt = subst (λ (zs : List T). i < length zs) same lt

pub turn_item : {T : Type 0} (xs ys : List T) (i : ℕ) (x : T) → xs ≡ ys → x ≡ get_or xs i x → x ≡ get_or ys i x
turn_item {T} xs ys i x same is = subst (λ (zs : List T). x ≡ get_or zs i x) same is

pub turns_end : {T : Type 0} (xs ys : List T) (i : ℕ) → xs ≡ ys → length xs ≤ i → length ys ≤ i
turns_end {T} xs ys i same le = subst (λ (zs : List T). length zs ≤ i) same le

module _ {T A : Type 0} (checks : ℕ → A → List Check) (place : T → A) (xs : List T) where
  pub turns_none : Passed 0 checks place xs 0
  turns_none = passed_none 0 checks place xs

  pub turn_passed : (n : ℕ) (x : T) → n < length xs → x ≡ get_or xs n x → Passed 0 checks place xs n → Passes (checks n (place x)) → Passed 0 checks place xs (n + 1)
  turn_passed n x lt is passed pass =
      passed_more 0 checks place xs n x lt is passed (subst (λ (k : ℕ). Passes (checks k (place x))) (let e : n ≡ 0 + n = omega arith in e) pass)

  pub turn_failed : (n : ℕ) (x : T) (e : SpecError) → n < length xs → x ≡ get_or xs n x → Passed 0 checks place xs n → Faults (checks n (place x)) e → Faults (for_each checks (map place xs)) e
  turn_failed n x e lt is passed h =
      passed_stop 0 checks place xs n x e lt is passed (subst (λ (k : ℕ). Faults (checks k (place x)) e) (let q : n ≡ 0 + n = omega arith in q) h)

  pub turns_passed : (n : ℕ) → length xs ≤ n → Passed 0 checks place xs n → Passes (for_each checks (map place xs))
  turns_passed n le passed = passed_end 0 checks place xs n le passed
