-- Checks that follow one another, and what is answered where one of them fails.
use Rattle.std.proofs.Common.{◌≡◌, ℕ, suc, ◌+◌, ◌<◌, ◌≤◌, Bool, true, false, List, [], ◌∷◌, ◌++◌, map, length, get_or, drop, drop-cons, refl, sym, ◌∙◌, subst, arith, cond}
use Rattle.std.specs.Prelude.{Some, None, Result, Ok, Err, IsErrAnd}
use Rattle.std.proofs.lemmas.List.{drop_all}
use Rattle.ras_names.specs.declared.spec_fault.SpecFault.{SpecFault}
use Rattle.ras_names.specs.Checks.{Check, first_of, for_each_from}
use Rattle.ras_names.proofs.Passing.{Passes, pass_first, pass_one, pass_both}
use Rattle.ras_scope.specs.declared.fault.SpecError.{SpecError}
use Rattle.ras_scope.specs.declared.fault.SpecError.TheVariants.{Fault, Memory}
use Rattle.ras_scope.specs.Answering.{Answers, Faults}

-- where the first checks pass, the later ones tell
pub first_follows : (xs ys : List Check) → Passes xs → first_of (xs ++ ys) ≡ first_of ys
first_follows [] ys h = refl
first_follows (c ∷ xs) ys h = go c.fails h (first_follows xs ys)
  where
    go : (b : Bool) → cond b (Some c.fault) (first_of xs) ≡ None → (Passes xs → first_of (xs ++ ys) ≡ first_of ys) → cond b (Some c.fault) (first_of (xs ++ ys)) ≡ first_of ys
    go true k later = absurd (cc)
    go false k later = later k

pub first_stays : (xs ys : List Check) (f : SpecFault) → first_of xs ≡ Some f → first_of (xs ++ ys) ≡ Some f
first_stays [] ys f h = absurd (cc)
first_stays (c ∷ xs) ys f h = go c.fails h (first_stays xs ys)
  where
    go : (b : Bool) → cond b (Some c.fault) (first_of xs) ≡ Some f → ((g : SpecFault) → first_of xs ≡ Some g → first_of (xs ++ ys) ≡ Some g) → cond b (Some c.fault) (first_of (xs ++ ys)) ≡ Some f
    go true k later = k
    go false k later = later f k

pub faults_stay : (xs ys : List Check) (e : SpecError) → Faults xs e → Faults (xs ++ ys) e
faults_stay xs ys (Fault f) h = first_stays xs ys f h
faults_stay xs ys (Memory m) h = tt

pub faults_follow : (xs ys : List Check) (e : SpecError) → Passes xs → Faults ys e → Faults (xs ++ ys) e
faults_follow xs ys (Fault f) pass h = first_follows xs ys pass ∙ h
faults_follow xs ys (Memory m) pass h = tt

-- the answer of the last reader, where all checks before its own pass
pub answers_follow : {A : Type 0} (xs ys : List Check) (r : Result A SpecError) → Passes xs → Answers ys r → Answers (xs ++ ys) r
answers_follow xs ys (Ok a) pass h = first_follows xs ys pass ∙ h
answers_follow xs ys (Err e) pass h = faults_follow xs ys e pass h

-- the answer of an error that is handed on
pub handed : {A : Type 0} (checks : List Check) (r : Result A SpecError) (e : SpecError) → IsErrAnd r (λ x. x ≡ e) → Faults checks e → Answers checks r
handed checks (Ok a) e h f = absurd h
handed checks (Err x) e h f = subst (Faults checks) (sym h) f

-- the checks of the first n of some items pass, of which the first has the number m
abbrev pub Passed : {T A : Type 0} → ℕ → (ℕ → A → List Check) → (T → A) → List T → ℕ → Type 0
Passed m checks place xs n = first_of (for_each_from m checks (map place xs)) ≡ first_of (for_each_from (m + n) checks (map place (drop n xs)))

pub passed_none : {T A : Type 0} (m : ℕ) (checks : ℕ → A → List Check) (place : T → A) (xs : List T) → Passed m checks place xs 0
passed_none m checks place xs = rw (let e : m + 0 ≡ m = omega arith in e) refl

pub passed_more : {T A : Type 0} (m : ℕ) (checks : ℕ → A → List Check) (place : T → A) (xs : List T) (n : ℕ) (x : T) → n < length xs → x ≡ get_or xs n x
    → Passed m checks place xs n → Passes (checks (m + n) (place x)) → Passed m checks place xs (n + 1)
passed_more {T} {A} m checks place xs n x lt here passed pass =
    let next : m + suc n ≡ m + n + 1 = omega arith in
    let last : n + 1 ≡ suc n = omega arith in
    let step : first_of (for_each_from (m + n) checks (map place (drop n xs))) ≡ first_of (for_each_from (m + (n + 1)) checks (map place (drop (n + 1) xs))) =
    rw (drop-cons xs n x lt, ← here, last, next) (first_follows (checks (m + n) (place x)) (for_each_from (m + n + 1) checks (map place (drop (suc n) xs))) pass) in
    passed ∙ step

pub passed_stop : {T A : Type 0} (m : ℕ) (checks : ℕ → A → List Check) (place : T → A) (xs : List T) (n : ℕ) (x : T) (e : SpecError) → n < length xs → x ≡ get_or xs n x
    → Passed m checks place xs n → Faults (checks (m + n) (place x)) e → Faults (for_each_from m checks (map place xs)) e
passed_stop {T} {A} m checks place xs n x (Memory o) lt here passed h = tt
passed_stop {T} {A} m checks place xs n x (Fault f) lt here passed h =
    let step : first_of (for_each_from (m + n) checks (map place (drop n xs))) ≡ Some f =
    rw (drop-cons xs n x lt, ← here) (first_stays (checks (m + n) (place x)) (for_each_from (m + n + 1) checks (map place (drop (suc n) xs))) f h) in
    passed ∙ step

pub passed_end : {T A : Type 0} (m : ℕ) (checks : ℕ → A → List Check) (place : T → A) (xs : List T) (n : ℕ) → length xs ≤ n → Passed m checks place xs n
    → Passes (for_each_from m checks (map place xs))
passed_end m checks place xs n le passed =
    let none : first_of (for_each_from (m + n) checks (map place (drop n xs))) ≡ None = rw (drop_all n xs le) refl in passed ∙ none

-- checks of which one stands between others
pub between_fails : (xs ys : List Check) (c : Check) → Passes xs → c.fails ≡ true → first_of (xs ++ c ∷ ys) ≡ Some c.fault
between_fails xs ys c pass h = first_follows xs (c ∷ ys) pass ∙ (let q : first_of (c ∷ ys) ≡ Some c.fault = rw h refl in q)

pub between_stays : (xs ys : List Check) (c : Check) (e : SpecError) → Passes xs → c.fails ≡ false → Faults ys e → Faults (xs ++ c ∷ ys) e
between_stays xs ys c e pass h k = faults_follow xs (c ∷ ys) e pass (faults_follow (c ∷ []) ys e (pass_one c h) k)

pub between_passes : (xs ys : List Check) (c : Check) → Passes xs → c.fails ≡ false → Passes ys → Passes (xs ++ c ∷ ys)
between_passes xs ys c pass h k = pass_both xs (c ∷ ys) pass (pass_first c ys h k)
