-- Lists that go together one by one.
use Rattle.std.proofs.Common.{◌≡◌, ℕ, zero, suc, ◌+◌, ◌<◌, ◌≤◌, List, [], ◌∷◌, ◌++◌, length, take, refl, sym, ◌∙◌, ap, subst, arith, ⊎_elim}
use Rattle.std.specs.Prelude.{slice_get, Some, All, map, flat_map}
use Rattle.std.proofs.lemmas.List.{length-append}
use Rattle.std.proofs.lemmas.List.Elements.{All-head, All-tail, All-nil, All-cons}
use Rattle.ras_names.specs.Lists.{OneByOne}
use Rattle.ras_names.proofs.Numbered.{in_left, in_right, in_either, in_either_at}

module _ {A B : Type 0} (R S : A → B → Type 0) where
  -- where each element goes together with one at most, so does the list
  pub one_by_one-unique : (xs : List A) (ys zs : List B) → ((k : ℕ) (x : A) → slice_get xs k ≡ Some x → (y z : B) → R x y → S x z → y ≡ z)
      → OneByOne R xs ys → OneByOne S xs zs → ys ≡ zs
  one_by_one-unique [] [] [] f h k = refl
  one_by_one-unique [] [] (z ∷ zs) f h k = absurd k
  one_by_one-unique [] (y ∷ ys) zs f h k = absurd h
  one_by_one-unique (x ∷ xs) [] zs f h k = absurd h
  one_by_one-unique (x ∷ xs) (y ∷ ys) [] f h k = absurd k
  one_by_one-unique (x ∷ xs) (y ∷ ys) (z ∷ zs) f h k =
      ap (λ (w : B). w ∷ ys) (f 0 x refl y z h.0 k.0) ∙ ap (λ ws. z ∷ ws) (one_by_one-unique xs ys zs (λ j w e. f (suc j) w e) h.1 k.1)

-- what holds of each of the second list
pub one_by_one-all : {A B : Type 0} (R : A → B → Type 0) (P : B → Type 0) (xs : List A) (ys : List B) → OneByOne R xs ys → All P ys
    → OneByOne (λ x y. R x y × P y) xs ys
one_by_one-all R P [] [] h p = tt
one_by_one-all R P [] (y ∷ ys) h p = absurd h
one_by_one-all R P (x ∷ xs) [] h p = absurd h
one_by_one-all R P (x ∷ xs) (y ∷ ys) h p = ((h.0, All-head P y ys p), one_by_one-all R P xs ys h.1 (All-tail P y ys p))

-- an element of a list that is made of lists of pairs
in_pairs : {X Y : Type 0} (x : X) (ys : List Y) (k : ℕ) (p : X × Y) → slice_get (map (λ y. (x, y)) ys) k ≡ Some p → x ≡ p.0
in_pairs x [] k p e = absurd (cc)
in_pairs {X} {Y} x (y ∷ ys) zero p e = let same : ◌≡◌ {A = X × Y} (x, y) p = cc in ap (λ (q : X × Y). q.0) same
in_pairs x (y ∷ ys) (suc k) p e = in_pairs x ys k p e

pub pair_from : {X Y : Type 0} (parts : X → List Y) (xs : List X) (k : ℕ) (p : X × Y)
    → slice_get (flat_map (λ (x : X). map (λ (y : Y). (x, y)) (parts x)) xs) k ≡ Some p → (j : ℕ) × (slice_get xs j ≡ Some p.0)
pair_from parts [] k p e = absurd (cc)
pair_from {X} {Y} parts (x ∷ xs) k p e =
    ⊎_elim (λ here. (0, ap (λ (z : X). Some z) (in_pairs x (parts x) k p here)))
    (λ later. let r = pair_from parts xs later.0 p later.1 in (suc r.0, r.1))
    (in_either (map (λ (y : Y). (x, y)) (parts x)) (flat_map (λ (z : X). map (λ (y : Y). (z, y)) (parts z)) xs) k p e)

-- what goes together with an element
pub one_by_one-to : {A B : Type 0} (R : A → B → Type 0) (xs : List A) (ys : List B) (k : ℕ) (x : A) → OneByOne R xs ys → slice_get xs k ≡ Some x
    → (y : B) × (slice_get ys k ≡ Some y) × R x y
one_by_one-to R [] ys k x h e = absurd (cc)
one_by_one-to R (z ∷ xs) [] k x h e = absurd h
one_by_one-to R (z ∷ xs) (y ∷ ys) zero x h e = let same : z ≡ x = cc in (y, refl, subst (λ w. R w y) same h.0)
one_by_one-to R (z ∷ xs) (y ∷ ys) (suc k) x h e = one_by_one-to R xs ys k x h.1 e

pub one_by_one-at : {A B : Type 0} (R : A → B → Type 0) (xs : List A) (ys : List B) (k : ℕ) (x : A) (y : B) → OneByOne R xs ys → slice_get xs k ≡ Some x
    → slice_get ys k ≡ Some y → R x y
one_by_one-at {A} {B} R xs ys k x y h e i =
    let t = one_by_one-to R xs ys k x h e in
    let same : t.0 ≡ y = some_is t.0 y (sym t.1 ∙ i) in subst (R x) same t.2
  where
    some_is : (a b : B) → Some a ≡ Some b → a ≡ b
    some_is a b q = cc

pub one_by_one-length : {A B : Type 0} (R : A → B → Type 0) (xs : List A) (ys : List B) → OneByOne R xs ys → length xs ≡ length ys
one_by_one-length R [] [] h = refl
one_by_one-length R [] (y ∷ ys) h = absurd h
one_by_one-length R (x ∷ xs) [] h = absurd h
one_by_one-length R (x ∷ xs) (y ∷ ys) h = ap suc (one_by_one-length R xs ys h.1)

-- the first list made from another
pub one_by_one-map : {A B C : Type 0} (R : A → B → Type 0) (f : C → A) (xs : List C) (ys : List B) → OneByOne R (map f xs) ys → OneByOne (λ x y. R (f x) y) xs ys
one_by_one-map R f [] [] h = tt
one_by_one-map R f [] (y ∷ ys) h = absurd h
one_by_one-map R f (x ∷ xs) [] h = absurd h
one_by_one-map R f (x ∷ xs) (y ∷ ys) h = (h.0, one_by_one-map R f xs ys h.1)

-- one more on both sides
pub one_by_one-more : {A B : Type 0} (R : A → B → Type 0) (xs : List A) (ys : List B) (x : A) (y : B) → OneByOne R xs ys → R x y → OneByOne R (xs ++ x ∷ []) (ys ++ y ∷ [])
one_by_one-more R [] [] x y h r = (r, tt)
one_by_one-more R [] (z ∷ ys) x y h r = absurd h
one_by_one-more R (w ∷ xs) [] x y h r = absurd h
one_by_one-more R (w ∷ xs) (z ∷ ys) x y h r = (h.0, one_by_one-more R xs ys x y h.1 r)

-- The i-th part of the j-th element, where all parts stand in one list; other parts, as many, are counted.
pub part_at : {X Y Z W : Type 0} (counted : X → List Y) (part : W → List Z) (made : X → W) → ((x : X) → length (counted x) ≡ length (part (made x)))
    → (xs : List X) (j : ℕ) (x : X) (i : ℕ) (z : Z) → slice_get xs j ≡ Some x → slice_get (part (made x)) i ≡ Some z
    → slice_get (flat_map part (map made xs)) (length (flat_map counted (take j xs)) + i) ≡ Some z
part_at counted part made same [] j x i z e h = absurd (cc)
part_at {X} {Y} {Z} {W} counted part made same (y ∷ ys) zero x i z e h =
    let one : y ≡ x = cc in
    subst (λ (n : ℕ). slice_get (part (made y) ++ flat_map part (map made ys)) n ≡ Some z) (let q : i ≡ 0 + i = omega arith in q)
    (in_left (part (made y)) (flat_map part (map made ys)) i z (subst (λ (w : X). slice_get (part (made w)) i ≡ Some z) (sym one) h))
part_at {X} {Y} {Z} {W} counted part made same (y ∷ ys) (suc j) x i z e h =
    let rest = part_at counted part made same ys j x i z e h in
    let before : List Y = flat_map counted (take j ys) in
    let longer : length (counted y ++ before) ≡ length (counted y) + length before = length-append (counted y) before in
    subst (λ (n : ℕ). slice_get (part (made y) ++ flat_map part (map made ys)) n ≡ Some z)
    (let q : length (part (made y)) + (length before + i) ≡ length (counted y ++ before) + i = omega (arith, longer, same y) in q)
    (in_right (part (made y)) (flat_map part (map made ys)) (length before + i) z rest)

-- where for each element there is one that goes together with it, there is a list
pub one_by_one-made : {A B : Type 0} (R : A → B → Type 0) (xs : List A) → ((k : ℕ) (x : A) → slice_get xs k ≡ Some x → (y : B) × R x y) → (ys : List B) × OneByOne R xs ys
one_by_one-made R [] f = ([], tt)
one_by_one-made {A} {B} R (x ∷ xs) f =
    let y = f 0 x refl in
    let ys = one_by_one-made R xs (λ k z e. f (suc k) z e) in (y.0 ∷ ys.0, (y.1, ys.1))

-- each of the second list has what its partner gives it
pub one_by_one-gives : {A B : Type 0} (R : A → B → Type 0) (P : B → Type 0) (xs : List A) (ys : List B) → OneByOne R xs ys → ((k : ℕ) (x : A) (y : B) → slice_get xs k ≡ Some x → R x y → P y) → All P ys
one_by_one-gives R P [] [] h f = All-nil P
one_by_one-gives R P [] (y ∷ ys) h f = absurd h
one_by_one-gives R P (x ∷ xs) [] h f = absurd h
one_by_one-gives R P (x ∷ xs) (y ∷ ys) h f = All-cons P y ys (f 0 x y refl h.0) (one_by_one-gives R P xs ys h.1 (λ k z w e. f (suc k) z w e))

-- a weaker relation
pub one_by_one-weaker : {A B : Type 0} (R S : A → B → Type 0) (xs : List A) (ys : List B) → OneByOne R xs ys → ((x : A) (y : B) → R x y → S x y) → OneByOne S xs ys
one_by_one-weaker R S [] [] h f = tt
one_by_one-weaker R S [] (y ∷ ys) h f = absurd h
one_by_one-weaker R S (x ∷ xs) [] h f = absurd h
one_by_one-weaker R S (x ∷ xs) (y ∷ ys) h f = (f x y h.0, one_by_one-weaker R S xs ys h.1 f)

-- the first list made from another, the other way round
pub one_by_one-mapped : {A B C : Type 0} (R : A → B → Type 0) (f : C → A) (xs : List C) (ys : List B) → OneByOne (λ x y. R (f x) y) xs ys → OneByOne R (map f xs) ys
one_by_one-mapped R f [] [] h = tt
one_by_one-mapped R f [] (y ∷ ys) h = absurd h
one_by_one-mapped R f (x ∷ xs) [] h = absurd h
one_by_one-mapped R f (x ∷ xs) (y ∷ ys) h = (h.0, one_by_one-mapped R f xs ys h.1)

-- the element at a number of the second list, with its partner
pub one_by_one-from : {A B : Type 0} (R : A → B → Type 0) (xs : List A) (ys : List B) (k : ℕ) (y : B) → OneByOne R xs ys → slice_get ys k ≡ Some y
    → (x : A) × (slice_get xs k ≡ Some x) × R x y
one_by_one-from R [] [] k y h e = absurd (cc)
one_by_one-from R [] (z ∷ ys) k y h e = absurd h
one_by_one-from R (x ∷ xs) [] k y h e = absurd h
one_by_one-from R (x ∷ xs) (z ∷ ys) zero y h e = let same : z ≡ y = cc in (x, refl, subst (R x) same h.0)
one_by_one-from R (x ∷ xs) (z ∷ ys) (suc k) y h e = one_by_one-from R xs ys k y h.1 e

-- which part of which element stands at a place, where all parts stand in one list; other parts, as many, are counted
pub record IsPart {X Y Z W : Type 0} (counted : X → List Y) (part : W → List Z) (made : X → W) (xs : List X) (k : ℕ) (z : Z) : Type 0 where
  pub place : ℕ
  pub element : X
  pub at : slice_get xs place ≡ Some element
  pub number : ℕ
  pub within : slice_get (part (made element)) number ≡ Some z
  pub position : k ≡ length (flat_map counted (take place xs)) + number

pub part_from : {X Y Z W : Type 0} (counted : X → List Y) (part : W → List Z) (made : X → W) → ((x : X) → length (counted x) ≡ length (part (made x)))
    → (xs : List X) (k : ℕ) (z : Z) → slice_get (flat_map part (map made xs)) k ≡ Some z → IsPart counted part made xs k z
part_from counted part made same [] k z e = absurd (cc)
part_from {X} {Y} {Z} {W} counted part made same (y ∷ ys) k z e =
    ⊎_elim (λ here. record { place = 0; element = y; at = refl; number = k; within = here; position = (let q : k ≡ 0 + k = omega arith in q) })
    (λ later. let rest = part_from counted part made same ys later.0 z later.2 in
    let before : List Y = flat_map counted (take rest.place ys) in
    let longer : length (counted y ++ before) ≡ length (counted y) + length before = length-append (counted y) before in record {
      place = suc rest.place;
      element = rest.element;
      at = rest.at;
      number = rest.number;
      within = rest.within;
      position = (let q : k ≡ length (counted y ++ before) + rest.number = omega (arith, longer, same y, later.1, rest.position) in q);
    })
    (in_either_at (part (made y)) (flat_map part (map made ys)) k z e)

-- the parts of an element come before those of a later one
pub parts_before : {X Y : Type 0} (counted : X → List Y) (xs : List X) (i j : ℕ) (x : X) → slice_get xs i ≡ Some x → i < j
    → length (flat_map counted (take i xs)) + length (counted x) ≤ length (flat_map counted (take j xs))
parts_before counted [] i j x e lt = absurd (cc)
parts_before counted (y ∷ ys) i zero x e lt = absurd (omega (arith, lt))
parts_before {X} {Y} counted (y ∷ ys) zero (suc j) x e lt =
    let same : y ≡ x = cc in
    let longer : length (counted y ++ flat_map counted (take j ys)) ≡ length (counted y) + length (flat_map counted (take j ys)) = length-append (counted y) (flat_map counted (take j ys)) in
    subst (λ (z : X). 0 + length (counted z) ≤ length (counted y ++ flat_map counted (take j ys))) same (omega (arith, longer))
parts_before {X} {Y} counted (y ∷ ys) (suc i) (suc j) x e lt =
    let rest = parts_before counted ys i j x e (omega (arith, lt)) in
    let one : length (counted y ++ flat_map counted (take i ys)) ≡ length (counted y) + length (flat_map counted (take i ys)) = length-append (counted y) (flat_map counted (take i ys)) in
    let other : length (counted y ++ flat_map counted (take j ys)) ≡ length (counted y) + length (flat_map counted (take j ys)) = length-append (counted y) (flat_map counted (take j ys)) in
    omega (arith, rest, one, other)
