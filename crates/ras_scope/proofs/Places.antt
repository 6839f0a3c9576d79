-- A name among names: its place, and what stands there.
use Rattle.std.proofs.Common.{◌≡◌, ℕ, zero, suc, ◌+◌, ◌<◌, Bool, true, false, not, cond, ◌||◌, List, [], ◌∷◌, ◌++◌, length, map, refl, sym, ◌∙◌, ap, subst, arith, nat_eq}
use Rattle.std.specs.Prelude.{Option, Some, None, slice_get, position, option_map, nat_lt, All}
use Rattle.std.specs.List.{list_any, find, position_or_len}
use Rattle.std.specs.Option.{option_map_or}
use Rattle.std.specs.Str.{bytes_eq}
use Rattle.std.proofs.lemmas.Bool.{ltb-true, lt-ltb}
use Rattle.std.proofs.lemmas.Bool.Decides.{Decides-eqb}
use Rattle.std.proofs.lemmas.List.{length-map, map-id, length-append, length_push}
use Rattle.std.proofs.lemmas.List.Folds.{find_at}
use Rattle.std.proofs.lemmas.List.Elements.{All-head, All-tail}
use Rattle.std.proofs.lemmas.Option.{cond_some, slice_get-map, same_Some}
use Rattle.std.proofs.lemmas.Slice.Eq.{bytes_eq-Decides}
use Rattle.ras_syntax.specs.Grammar.{Text}
use Rattle.ras_names.specs.Checks.{is_among}
use Rattle.ras_names.proofs.Numbered.{in_left, in_right}
use Rattle.ras_numbering.specs.Numbers.{number_in}
use Rattle.ras_scope.specs.Finding.{Finds}

pub one_test : (x y : Bool) → (x ≡ true → y ≡ true) → (y ≡ true → x ≡ true) → x ≡ y
one_test true y f g = sym (f refl)
one_test false true f g = g refl
one_test false false f g = refl

pub either_way : (a b : Text) → bytes_eq a b ≡ bytes_eq b a
either_way a b = one_test (bytes_eq a b) (bytes_eq b a) (λ h. (bytes_eq-Decides b a).1 (sym ((bytes_eq-Decides a b).0 h))) (λ h. (bytes_eq-Decides a b).1 (sym ((bytes_eq-Decides b a).0 h)))

at_least : {A : Type 0} (xs : List A) (n : ℕ) → n < length xs → (x : A) × (slice_get xs n ≡ Some x)
at_least [] n lt = absurd (omega (arith, lt))
at_least (x ∷ xs) zero lt = (x, refl)
at_least (x ∷ xs) (suc n) lt = at_least xs n (omega (arith, lt))

found_within : {A : Type 0} (p : A → Bool) (xs : List A) → list_any p xs ≡ true → position_or_len p xs < length xs
found_within p [] h = absurd (cc)
found_within p (x ∷ xs) h = go (p x) h (found_within p xs)
  where
    go : (b : Bool) → (b || list_any p xs) ≡ true → (list_any p xs ≡ true → position_or_len p xs < length xs) → cond (not b) (1 + position_or_len p xs) 0 < suc (length xs)
    go true k rest = omega arith
    go false k rest = let lt = rest k in omega (arith, lt)

not_within : {A : Type 0} (p : A → Bool) (xs : List A) → list_any p xs ≡ false → position_or_len p xs ≡ length xs
not_within p [] h = refl
not_within p (x ∷ xs) h = go (p x) h (not_within p xs)
  where
    go : (b : Bool) → (b || list_any p xs) ≡ false → (list_any p xs ≡ false → position_or_len p xs ≡ length xs) → cond (not b) (1 + position_or_len p xs) 0 ≡ suc (length xs)
    go true k rest = absurd (cc)
    go false k rest = let e = rest k in omega (arith, e)

-- a name that is among the names has a number, and another has none
pub number_of : (names : List Text) (name : Text) → is_among names name ≡ true → position (bytes_eq name) names ≡ Some (number_in names name)
number_of names name h =
    let place : ℕ = position_or_len (bytes_eq name) names in
    let e : position (bytes_eq name) names ≡ Some place = rw (lt-ltb place (length names) (found_within (bytes_eq name) names h)) refl in
    e ∙ ap (λ (n : ℕ). Some n) (sym (ap (λ (o : Option ℕ). option_map_or (λ (n : ℕ). n) o 0) e))

pub no_number : (names : List Text) (name : Text) → is_among names name ≡ false → position (bytes_eq name) names ≡ None
no_number names name h = grind (arith, not_within (bytes_eq name) names h)

pub number_is : (names : List Text) (name : Text) (n : ℕ) → position (bytes_eq name) names ≡ Some n → n ≡ number_in names name
number_is names name n h = sym (ap (λ (o : Option ℕ). option_map_or (λ (k : ℕ). k) o 0) h)

-- the first of the items that has this name, where their names are looked through
same_place : {A : Type 0} (key : A → Text) (xs : List A) (name : Text) → position_or_len (bytes_eq name) (map key xs) ≡ position_or_len (λ (x : A). bytes_eq (key x) name) xs
same_place key [] name = refl
same_place {A} key (x ∷ xs) name = λ i. cond (not (either_way name (key x) i)) (1 + same_place key xs name i) 0

pub record IsAt {A : Type 0} (key : A → Text) (xs : List A) (name : Text) (n : ℕ) : Type 0 where
  pub item : A
  pub at : slice_get xs n ≡ Some item
  pub first : find (λ (x : A). bytes_eq (key x) name) xs ≡ Some item

pub item_at : {A : Type 0} (key : A → Text) (xs : List A) (name : Text) (n : ℕ) → position (bytes_eq name) (map key xs) ≡ Some n → IsAt key xs name n
item_at {A} key xs name n h =
    let p = cond_some (nat_lt (position_or_len (bytes_eq name) (map key xs)) (length (map key xs))) (position_or_len (bytes_eq name) (map key xs)) n h in
    let below : position_or_len (bytes_eq name) (map key xs) < length (map key xs) = ltb-true _ _ p.0 in
    let lt : n < length xs = omega (arith, below, p.1, length-map xs key) in
    let x = at_least xs n lt in
    let place : position_or_len (λ (y : A). bytes_eq (key y) name) xs ≡ n = sym (same_place key xs name) ∙ p.1 in
    record { item = x.0; at = x.1; first = find_at (λ (y : A). bytes_eq (key y) name) xs ∙ ap (λ (k : ℕ). slice_get xs k) place ∙ x.1 }

-- the name that has a number
pub name_at : (names : List Text) (name : Text) (n : ℕ) → position (bytes_eq name) names ≡ Some n → slice_get names n ≡ Some name
name_at names name n h =
    let w = item_at (λ (t : Text). t) names name n (subst (λ (ts : List Text). position (bytes_eq name) ts ≡ Some n) (sym (map-id names)) h) in
    w.at ∙ ap (λ (t : Text). Some t) (found names w.item w.first)
  where
    found : (ts : List Text) (t : Text) → find (λ (x : Text). bytes_eq x name) ts ≡ Some t → t ≡ name
    found [] t e = absurd (cc)
    found (u ∷ ts) t e = go (bytes_eq u name) refl e (found ts t)
      where
        go : (b : Bool) → bytes_eq u name ≡ b → cond b (Some u) (find (λ (x : Text). bytes_eq x name) ts) ≡ Some t → (find (λ (x : Text). bytes_eq x name) ts ≡ Some t → t ≡ name) → t ≡ name
        go true q k later = sym (same_Some u t k) ∙ (bytes_eq-Decides u name).0 q
        go false q k later = later k

-- numbers tell names apart
pub same_number : (names : List Text) (a b : Text) → is_among names a ≡ true → is_among names b ≡ true → bytes_eq a b ≡ nat_eq (number_in names a) (number_in names b)
same_number names a b h k =
    one_test (bytes_eq a b) (nat_eq (number_in names a) (number_in names b))
    (λ e. (Decides-eqb (number_in names a) (number_in names b)).1 (ap (number_in names) ((bytes_eq-Decides a b).0 e)))
    (λ e. (bytes_eq-Decides a b).1 (same_Some a b
    (sym (name_at names a (number_in names a) (number_of names a h)) ∙ ap (λ (n : ℕ). slice_get names n) ((Decides-eqb (number_in names a) (number_in names b)).0 e)
    ∙ name_at names b (number_in names b) (number_of names b k))))

-- what is made of the item at a number
pub value_at : {A B : Type 0} (f : A → B) (xs : List A) (values : List B) (n : ℕ) (x : A) (v : B) → values ≡ map f xs → slice_get xs n ≡ Some x → slice_get values n ≡ Some v → f x ≡ v
value_at {A} {B} f xs values n x v same at h =
    same_Some (f x) v (sym (ap (option_map f) at) ∙ sym (slice_get-map f xs n) ∙ sym (ap (λ (vs : List B). slice_get vs n) same) ∙ h)

-- names in front of others
pub among_append : (names more : List Text) (name : Text) → is_among (names ++ more) name ≡ (is_among names name || is_among more name)
among_append [] more name = refl
among_append (t ∷ ts) more name = go (bytes_eq name t) (among_append ts more name)
  where
    go : (b : Bool) → is_among (ts ++ more) name ≡ (is_among ts name || is_among more name) → (b || is_among (ts ++ more) name) ≡ ((b || is_among ts name) || is_among more name)
    go true later = refl
    go false later = later

-- a name that stands in front, and one that stands behind
place_front : {A : Type 0} (p : A → Bool) (xs ys : List A) → position_or_len p xs < length xs → position_or_len p (xs ++ ys) ≡ position_or_len p xs
place_front p [] ys lt = absurd (omega (arith, lt))
place_front p (x ∷ xs) ys lt = go (p x) lt (place_front p xs ys)
  where
    go : (b : Bool) → cond (not b) (1 + position_or_len p xs) 0 < suc (length xs) → (position_or_len p xs < length xs → position_or_len p (xs ++ ys) ≡ position_or_len p xs)
        → cond (not b) (1 + position_or_len p (xs ++ ys)) 0 ≡ cond (not b) (1 + position_or_len p xs) 0
    go true k later = refl
    go false k later = ap (λ (n : ℕ). 1 + n) (later (omega (arith, k)))

place_behind : {A : Type 0} (p : A → Bool) (xs ys : List A) → list_any p xs ≡ false → position_or_len p (xs ++ ys) ≡ length xs + position_or_len p ys
place_behind p [] ys h = omega arith
place_behind p (x ∷ xs) ys h = go (p x) h (place_behind p xs ys)
  where
    go : (b : Bool) → (b || list_any p xs) ≡ false → (list_any p xs ≡ false → position_or_len p (xs ++ ys) ≡ length xs + position_or_len p ys)
        → cond (not b) (1 + position_or_len p (xs ++ ys)) 0 ≡ suc (length xs) + position_or_len p ys
    go true k later = absurd (cc)
    go false k later = let e = later k in omega (arith, e)

number_front : (names more : List Text) (name : Text) (n : ℕ) → position (bytes_eq name) names ≡ Some n → position (bytes_eq name) (names ++ more) ≡ Some n
number_front names more name n h =
    let p = cond_some (nat_lt (position_or_len (bytes_eq name) names) (length names)) (position_or_len (bytes_eq name) names) n h in
    let below : position_or_len (bytes_eq name) names < length names = ltb-true _ _ p.0 in
    let place = place_front (bytes_eq name) names more below in
    let lt : n < length (names ++ more) = omega (arith, below, p.1, length-append names more) in
    rw (place, p.1, lt-ltb n (length (names ++ more)) lt) refl

number_last : (names : List Text) (name : Text) → is_among names name ≡ false → position (bytes_eq name) (names ++ name ∷ []) ≡ Some (length names)
number_last names name h =
    let here : bytes_eq name name ≡ true = (bytes_eq-Decides name name).1 refl in
    let own : position_or_len (bytes_eq name) (name ∷ []) ≡ 0 = rw here refl in
    let more : length (names ++ name ∷ []) ≡ length names + 1 = length_push names name in
    let place : position_or_len (bytes_eq name) (names ++ name ∷ []) ≡ length names = let e = place_behind (bytes_eq name) names (name ∷ []) h in omega (arith, e, own) in
    let lt : length names < length (names ++ name ∷ []) = omega (arith, more) in
    rw (place, lt-ltb (length names) (length (names ++ name ∷ [])) lt) refl

pub finds_front : {T : Type 0} (names more : List Text) (values others : List T) (name : Text) (found : ℕ × T) → Finds names values name found
    → Finds (names ++ more) (values ++ others) name found
finds_front names more values others name found h = record {
  number = number_front names more name found.0 h.number;
  value = in_left values others found.0 found.1 h.value;
}

pub finds_last : {T : Type 0} (names : List Text) (values : List T) (name : Text) (value : T) → is_among names name ≡ false → length values ≡ length names
    → Finds (names ++ name ∷ []) (values ++ value ∷ []) name (length names, value)
finds_last {T} names values name value h same = record {
  number = number_last names name h;
  value = subst (λ (n : ℕ). slice_get (values ++ value ∷ []) n ≡ Some value) (let q : length values + 0 ≡ length names = omega (arith, same) in q)
      (in_right values (value ∷ []) 0 value refl);
}

-- an item whose name is none of these
pub none_first : {A : Type 0} (key : A → Text) (xs : List A) (name : Text) → is_among (map key xs) name ≡ false → find (λ (x : A). bytes_eq (key x) name) xs ≡ None
none_first key [] name h = refl
none_first {A} key (x ∷ xs) name h = go (bytes_eq (key x) name) (subst (λ (b : Bool). (b || is_among (map key xs) name) ≡ false) (either_way name (key x)) h) (none_first key xs name)
  where
    go : (b : Bool) → (b || is_among (map key xs) name) ≡ false → (is_among (map key xs) name ≡ false → find (λ (y : A). bytes_eq (key y) name) xs ≡ None)
        → cond b (Some x) (find (λ (y : A). bytes_eq (key y) name) xs) ≡ None
    go true k later = absurd (cc)
    go false k later = later k

-- the name of the one that stands behind all others
pub finds_behind : {T : Type 0} (names more : List Text) (values others : List T) (name : Text) (found : ℕ × T) → is_among names name ≡ false → length values ≡ length names
    → found.0 ≡ length names → more ≡ name ∷ [] → others ≡ found.1 ∷ [] → Finds (names ++ more) (values ++ others) name found
finds_behind {T} names more values others name found none same number is are =
    subst (λ (ms : List Text). Finds (names ++ ms) (values ++ others) name found) (sym is)
    (subst (λ (os : List T). Finds (names ++ name ∷ []) (values ++ os) name found) (sym are)
    (subst (λ (n : ℕ). Finds (names ++ name ∷ []) (values ++ found.1 ∷ []) name (n, found.1)) (sym number) (finds_last names values name found.1 none same)))

pub numbers_either_way : (m n : ℕ) → nat_eq m n ≡ nat_eq n m
numbers_either_way m n = one_test (nat_eq m n) (nat_eq n m) (λ h. (Decides-eqb n m).1 (sym ((Decides-eqb m n).0 h))) (λ h. (Decides-eqb m n).1 (sym ((Decides-eqb n m).0 h)))

-- a name is among others where its number is among theirs
pub numbers_among : {A V : Type 0} (names : List Text) (key : A → Text) (number : V → ℕ) (value : A → V) → ((x : A) → number (value x) ≡ number_in names (key x)) → (xs : List A) (name : Text)
    → All (λ (x : A). is_among names (key x) ≡ true) xs → is_among names name ≡ true → list_any (λ (v : V). nat_eq (number v) (number_in names name)) (map value xs) ≡ is_among (map key xs) name
numbers_among names key number value is [] name all known = refl
numbers_among {A} {V} names key number value is (x ∷ xs) name all known =
    let own : is_among names (key x) ≡ true = All-head (λ (y : A). is_among names (key y) ≡ true) x xs all in
    let first : nat_eq (number (value x)) (number_in names name) ≡ bytes_eq name (key x) =
    ap (λ (n : ℕ). nat_eq n (number_in names name)) (is x) ∙ sym (same_number names (key x) name own known) ∙ either_way (key x) name in
    let rest = numbers_among names key number value is xs name (All-tail (λ (y : A). is_among names (key y) ≡ true) x xs all) known in
    λ i. first i || rest i
