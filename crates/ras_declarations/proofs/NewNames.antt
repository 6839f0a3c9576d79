-- Names that are new, and lists that grow by one.
use Rattle.std.proofs.Common.{◌≡◌, ℕ, zero, suc, ◌+◌, ◌<◌, ◌≤◌, Bool, true, false, ◌||◌, List, [], ◌∷◌, ◌++◌, length, get_or, take, map, sym, ◌∙◌, ap, subst, arith, append_assoc}
use Rattle.std.specs.Prelude.{All}
use Rattle.std.proofs.lemmas.Bool.{leb-false}
use Rattle.std.proofs.lemmas.List.{map_more, map-append, take-map, take_all, length-map, length-take, get_or-map}
use Rattle.std.proofs.lemmas.List.Elements.{All-more, All-append}
use Rattle.ras_syntax.specs.Grammar.{Text}
use Rattle.ras_names.specs.Placed.{Name}
use Rattle.ras_names.specs.Checks.{is_among, declared_checks, new_check, used_check}
use Rattle.ras_names.proofs.Passing.{Passes, passed_first, passed-not}
use Rattle.ras_scope.proofs.Places.{among_append}

-- where its checks pass, a declared name is within the limit and new
pub name_within : (limit n : ℕ) (names : List Text) (name : Name) → Passes (declared_checks limit n names name) → n < limit
name_within limit n names name h = leb-false limit n (passed_first _ (new_check names name ∷ []) h).0

pub name_new : (limit n : ℕ) (names : List Text) (name : Name) → Passes (declared_checks limit n names name) → is_among names name.text ≡ false
name_new limit n names name h = (passed_first _ [] (passed_first _ (new_check names name ∷ []) h).1).0

pub same_declared : (limit count n : ℕ) (names more : List Text) (name : Name) → count ≡ n → names ≡ more → declared_checks limit count names name ≡ declared_checks limit n more name
same_declared limit count n names more name c e = λ i. declared_checks limit (c i) (e i) name

neither : (x y : Bool) → (x || y) ≡ false → y ≡ false
neither true y h = absurd (cc)
neither false y h = h

-- a name that is none of two lists is none of the second
pub none_behind : (names more : List Text) (name : Text) → is_among (names ++ more) name ≡ false → is_among more name ≡ false
none_behind names more name h = neither (is_among names name) (is_among more name) (sym (among_append names more name) ∙ h)

module _ {T A : Type 0} (place : T → A) (xs : List T) (n : ℕ) (x : T) (lt : n < length xs) (here : x ≡ get_or xs n x) where
  -- one item more
  pub items_more : take (n + 1) (map place xs) ≡ take n (map place xs) ++ place x ∷ []
  items_more =
      take-map place (n + 1) xs ∙ map_more place xs n x lt
      ∙ (λ i. sym (take-map place n xs) i ++ place (sym here i) ∷ [])

  pub keys_more : {B : Type 0} (key : A → B) → map key (take (n + 1) (map place xs)) ≡ map key (take n (map place xs)) ++ key (place x) ∷ []
  keys_more {B} key = ap (map key) items_more ∙ map-append key (take n (map place xs)) (place x ∷ [])

  pub all_more : (P : A → Type 0) → All P (take n (map place xs)) → P (place x) → All P (take (n + 1) (map place xs))
  all_more P all one =
      let same : get_or (map place xs) n (place x) ≡ place x = get_or-map place xs n x (place x) lt ∙ ap place (sym here) in
      let within : n < length (map place xs) = let e = length-map xs place in omega (arith, e, lt) in
      All-more P (map place xs) n (place x) within all (subst P (sym same) one)

pub whole : {T A : Type 0} (place : T → A) (xs : List T) (n : ℕ) → length xs ≤ n → take n (map place xs) ≡ map place xs
whole place xs n le = take_all n (map place xs) (let e = length-map xs place in omega (arith, e))

-- as many as are taken
pub taken : {T A B : Type 0} (place : T → A) (key : A → B) (xs : List T) (n : ℕ) → n ≤ length xs → length (map key (take n (map place xs))) ≡ n
taken place key xs n le =
    let a = length-map (take n (map place xs)) key in
    let b = length-take n (map place xs) in
    let e = length-map xs place in omega (arith, a, b, e, le)

pub taken_most : {T A B : Type 0} (place : T → A) (key : A → B) (xs : List T) (n : ℕ) → length (map key (take n (map place xs))) ≤ n
taken_most place key xs n =
    let a = length-map (take n (map place xs)) key in
    let b = length-take n (map place xs) in omega (arith, a, b)

-- where its check passes, a used name is known
pub used_known : (names : List Text) (name : Name) → Passes (used_check names name ∷ []) → is_among names name.text ≡ true
used_known names name h = passed-not (is_among names name.text) (passed_first (used_check names name) [] h).0

all_one : {A : Type 0} (P : A → Type 0) (x : A) → P x → All P (x ∷ [])
all_one P x h zero d lt = h
all_one P x h (suc k) d lt = absurd (omega (arith, lt))

pub all_push : {A : Type 0} (P : A → Type 0) (xs : List A) (x : A) → All P xs → P x → All P (xs ++ x ∷ [])
all_push P xs x all h = All-append P xs (x ∷ []) all (all_one P x h)

-- a list that grows by one just as another
pub pushed : {A : Type 0} (new old made more : List A) (x : A) → new ≡ old ++ x ∷ [] → old ≡ made → made ++ x ∷ [] ≡ more → new ≡ more
pushed {A} new old made more x grown same last = grown ∙ ap (λ (xs : List A). xs ++ x ∷ []) same ∙ last

-- so behind other elements
pub pushed_behind : {A : Type 0} (new old front made more : List A) (x : A) → new ≡ old ++ x ∷ [] → old ≡ front ++ made → made ++ x ∷ [] ≡ more → new ≡ front ++ more
pushed_behind {A} new old front made more x grown same last =
    grown ∙ ap (λ (xs : List A). xs ++ x ∷ []) same ∙ append_assoc front made (x ∷ []) ∙ ap (λ (xs : List A). front ++ xs) last

pub all_none : {A : Type 0} (P : A → Type 0) (xs : List A) → xs ≡ [] → All P xs
all_none {A} P xs none = subst (λ (ys : List A). All P ys) (sym none) (λ k d lt. absurd (omega (arith, lt)))

-- so where what is put last is the same as another
pub pushed_as : {A : Type 0} (new old made more : List A) (x y : A) → new ≡ old ++ x ∷ [] → x ≡ y → old ≡ made → made ++ y ∷ [] ≡ more → new ≡ more
pushed_as {A} new old made more x y grown alike same last = grown ∙ (λ i. same i ++ alike i ∷ []) ∙ last
