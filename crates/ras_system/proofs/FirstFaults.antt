-- The first check that fails, list by list and element by element.
use Rattle.std.proofs.Common.{◌≡◌, ℕ, suc, ◌+◌, ◌<◌, ◌≤◌, Bool, true, false, List, [], ◌∷◌, ◌++◌, length, get_or, refl, sym, ◌∙◌, ap, subst, drop, drop-cons, add-one}
use Rattle.std.specs.Prelude.{Some, None, Result, Ok, Err, IsErrAnd, flat_map, cond}
use Rattle.std.specs.List.{enumerate_from}
use Rattle.std.proofs.lemmas.List.{drop_all}
use Rattle.ras_system.specs.declared.system_fault.SystemFault.{SystemFault}
use Rattle.ras_system.specs.SystemFaults.{Check, first_of, for_each, Answers}

-- a check that passes
pub first_of-passed : (c : Check) (checks : List Check) → c.fails ≡ false → first_of (c ∷ checks) ≡ first_of checks
first_of-passed c checks h = rw h

pub first_of-append_none : (xs ys : List Check) → first_of xs ≡ None → first_of (xs ++ ys) ≡ first_of ys
first_of-append_none [] ys h = refl
first_of-append_none (c ∷ xs) ys h = go c.fails h (first_of-append_none xs ys)
  where
    go : (b : Bool) → cond b (Some c.fault) (first_of xs) ≡ None → (first_of xs ≡ None → first_of (xs ++ ys) ≡ first_of ys) → cond b (Some c.fault) (first_of (xs ++ ys)) ≡ first_of ys
    go true k later = absurd (cc)
    go false k later = later k

pub first_of-append_some : (xs ys : List Check) (f : SystemFault) → first_of xs ≡ Some f → first_of (xs ++ ys) ≡ Some f
first_of-append_some [] ys f h = absurd (cc)
first_of-append_some (c ∷ xs) ys f h = go c.fails h (first_of-append_some xs ys)
  where
    go : (b : Bool) → cond b (Some c.fault) (first_of xs) ≡ Some f → ((g : SystemFault) → first_of xs ≡ Some g → first_of (xs ++ ys) ≡ Some g) → cond b (Some c.fault) (first_of (xs ++ ys)) ≡ Some f
    go true k later = k
    go false k later = later f k

-- the answer of later checks, where the earlier ones pass
pub later_answer : {A : Type 0} (xs ys : List Check) (r : Result A SystemFault) → first_of xs ≡ None → Answers ys r → Answers (xs ++ ys) r
later_answer xs ys (Ok u) none answer = first_of-append_none xs ys none ∙ answer
later_answer xs ys (Err f) none answer = first_of-append_none xs ys none ∙ answer

-- the checks of the first n elements pass
abbrev pub Passed : {A : Type 0} → (ℕ → A → List Check) → List A → ℕ → Type 0
Passed {A} checks xs n = first_of (for_each checks xs) ≡ first_of (flat_map (λ (p : ℕ × A). checks p.0 p.1) (enumerate_from n (drop n xs)))

-- an element more; the list is read as one that is the same
pub passed_more : {A : Type 0} (checks : ℕ → A → List Check) (xs read : List A) (n : ℕ) (x : A) → read ≡ xs → n < length read → x ≡ get_or read n x → Passed checks xs n
    → first_of (checks n x) ≡ None → Passed checks xs (n + 1)
passed_more {A} checks xs read n x same lt here passed none =
    let within : n < length xs = subst (λ (ys : List A). n < length ys) same lt in
    let item : x ≡ get_or xs n x = subst (λ (ys : List A). x ≡ get_or ys n x) same here in
    passed ∙ rw (drop-cons xs n x within, add-one, ← item) (first_of-append_none (checks n x) (flat_map (λ (p : ℕ × A). checks p.0 p.1) (enumerate_from (suc n) (drop (suc n) xs))) none)

pub passed_fault : {A : Type 0} (checks : ℕ → A → List Check) (xs read : List A) (n : ℕ) (x : A) (f : SystemFault) → read ≡ xs → n < length read → x ≡ get_or read n x
    → Passed checks xs n → first_of (checks n x) ≡ Some f → first_of (for_each checks xs) ≡ Some f
passed_fault {A} checks xs read n x f same lt here passed some =
    let within : n < length xs = subst (λ (ys : List A). n < length ys) same lt in
    let item : x ≡ get_or xs n x = subst (λ (ys : List A). x ≡ get_or ys n x) same here in
    passed ∙ rw (drop-cons xs n x within, ← item) (first_of-append_some (checks n x) (flat_map (λ (p : ℕ × A). checks p.0 p.1) (enumerate_from (n + 1) (drop (suc n) xs))) f some)

pub passed_all : {A : Type 0} (checks : ℕ → A → List Check) (xs : List A) (n : ℕ) → length xs ≤ n → Passed checks xs n → first_of (for_each checks xs) ≡ None
passed_all checks xs n le passed = passed ∙ rw (drop_all n xs le)

-- the answer of a fault that is handed on
pub fault_answer : {A : Type 0} (checks : List Check) (r : Result A SystemFault) (f : SystemFault) → IsErrAnd r (λ e. e ≡ f) → first_of checks ≡ Some f → Answers checks r
fault_answer checks (Ok u) f h first = absurd h
fault_answer checks (Err e) f h first = first ∙ ap (λ (x : SystemFault). Some x) (sym h)

-- four lists of checks in order
pub second_fault : (a b c d : List Check) (f : SystemFault) → first_of a ≡ None → first_of b ≡ Some f → first_of (a ++ b ++ c ++ d) ≡ Some f
second_fault a b c d f none some =
    first_of-append_some (a ++ b ++ c) d f (first_of-append_some (a ++ b) c f (first_of-append_none a b none ∙ some))

pub third_fault : (a b c d : List Check) (f : SystemFault) → first_of a ≡ None → first_of b ≡ None → first_of c ≡ Some f → first_of (a ++ b ++ c ++ d) ≡ Some f
third_fault a b c d f none_a none_b some =
    first_of-append_some (a ++ b ++ c) d f (first_of-append_none (a ++ b) c (first_of-append_none a b none_a ∙ none_b) ∙ some)

pub fourth_answer : {A : Type 0} (a b c d : List Check) (r : Result A SystemFault) → first_of a ≡ None → first_of b ≡ None → first_of c ≡ None → Answers d r
    → Answers (a ++ b ++ c ++ d) r
fourth_answer a b c d r none_a none_b none_c answer =
    later_answer (a ++ b ++ c) d r (first_of-append_none (a ++ b) c (first_of-append_none a b none_a ∙ none_b) ∙ none_c) answer

-- the answer of a fault that is found here
pub found_answer : {A : Type 0} (checks : List Check) (r : Result A SystemFault) (f : SystemFault) → r ≡ Err f → first_of checks ≡ Some f → Answers checks r
found_answer checks (Ok u) f here first = absurd (cc)
found_answer checks (Err e) f here first = let same : f ≡ e = cc in first ∙ ap (λ (x : SystemFault). Some x) same
