-- Checks that pass, one after the other.
use Rattle.std.proofs.Common.{◌≡◌, ℕ, suc, ◌+◌, ◌<◌, ◌≤◌, Bool, false, true, List, [], ◌∷◌, map, length, get_or, drop, drop-cons, refl, ◌∙◌, add-one, cond}
use Rattle.std.specs.Prelude.{Some, None}
use Rattle.std.proofs.lemmas.List.{drop_all}
use Rattle.ras_names.specs.declared.spec_fault.SpecFault.{SpecFault}
use Rattle.ras_names.specs.Checks.{Check, first_of}
use Rattle.ras_scope.specs.declared.fault.SpecError.{SpecError}
use Rattle.ras_scope.specs.declared.fault.SpecError.TheVariants.{Fault, Memory}
use Rattle.ras_scope.specs.Answering.{Faults}

-- the checks of the first n elements pass
abbrev pub Passed : {A : Type 0} → (A → Check) → List A → ℕ → Type 0
Passed check xs n = first_of (map check xs) ≡ first_of (map check (drop n xs))

pub passed_more : {A : Type 0} (check : A → Check) (xs : List A) (n : ℕ) (x : A) → n < length xs → Passed check xs n
    → first_of (check (get_or xs n x) ∷ []) ≡ None → Passed check xs (n + 1)
passed_more {A} check xs n x lt passed none = passed ∙ rw (drop-cons xs n x lt, add-one) (one (check (get_or xs n x)) (map check (drop (suc n) xs)) none)
  where
    one : (c : Check) (cs : List Check) → first_of (c ∷ []) ≡ None → first_of (c ∷ cs) ≡ first_of cs
    one c cs h = go c.fails h
      where
        go : (b : Bool) → cond b (Some c.fault) None ≡ None → cond b (Some c.fault) (first_of cs) ≡ first_of cs
        go true k = absurd (cc)
        go false k = refl

pub passed_fault : {A : Type 0} (check : A → Check) (xs : List A) (n : ℕ) (x : A) (f : SpecFault) → n < length xs → Passed check xs n
    → first_of (check (get_or xs n x) ∷ []) ≡ Some f → first_of (map check xs) ≡ Some f
passed_fault {A} check xs n x f lt passed some = passed ∙ rw (drop-cons xs n x lt) (one (check (get_or xs n x)) (map check (drop (suc n) xs)) some)
  where
    one : (c : Check) (cs : List Check) → first_of (c ∷ []) ≡ Some f → first_of (c ∷ cs) ≡ Some f
    one c cs h = go c.fails h
      where
        go : (b : Bool) → cond b (Some c.fault) None ≡ Some f → cond b (Some c.fault) (first_of cs) ≡ Some f
        go true k = k
        go false k = absurd (cc)

pub passed_all : {A : Type 0} (check : A → Check) (xs : List A) (n : ℕ) → length xs ≤ n → Passed check xs n → first_of (map check xs) ≡ None
passed_all check xs n le passed = passed ∙ rw (drop_all n xs le) refl

pub passed_error : {A : Type 0} (check : A → Check) (xs : List A) (n : ℕ) (x : A) (e : SpecError) → n < length xs → Passed check xs n
    → Faults (check (get_or xs n x) ∷ []) e → Faults (map check xs) e
passed_error check xs n x (Fault f) lt passed some = passed_fault check xs n x f lt passed some
passed_error check xs n x (Memory m) lt passed some = tt
