-- The elements of lists that are made of others.
use Rattle.std.proofs.Common.{◌≡◌, ℕ, zero, suc, ◌+◌, Bool, true, false, List, [], ◌∷◌, ◌++◌, map, length, refl, sym, ◌∙◌, ap, subst, arith, cond, ◌⊎◌, inl, inr, ⊎_elim, slice_get, Some, Any, filter, flat_map}
use Rattle.std.specs.List.{AllByRecursion, enumerate_from}
use Rattle.std.proofs.lemmas.Option.{slice_get_within, get_or_from_slice_get, slice_get_read}

-- x is an element of a list
abbrev pub In : {A : Type 0} → A → List A → Type 0
In x [] = ⊥
In x (y ∷ ys) = (y ≡ x) ⊎ In x ys

pub in_append_left : {A : Type 0} (x : A) (xs ys : List A) → In x xs → In x (xs ++ ys)
in_append_left x [] ys h = absurd h
in_append_left x (y ∷ xs) ys h = ⊎_elim inl (λ r. inr (in_append_left x xs ys r)) h

pub in_append_right : {A : Type 0} (x : A) (xs ys : List A) → In x ys → In x (xs ++ ys)
in_append_right x [] ys h = h
in_append_right x (y ∷ xs) ys h = inr (in_append_right x xs ys h)

pub append_in : {A : Type 0} (x : A) (xs ys : List A) → In x (xs ++ ys) → In x xs ⊎ In x ys
append_in x [] ys h = inr h
append_in x (y ∷ xs) ys h = ⊎_elim (λ e. inl (inl e)) (λ r. ⊎_elim (λ a. inl (inr a)) inr (append_in x xs ys r)) h

pub in_map : {A B : Type 0} (f : A → B) (x : A) (xs : List A) → In x xs → In (f x) (map f xs)
in_map f x [] h = absurd h
in_map f x (y ∷ xs) h = ⊎_elim (λ e. inl (ap f e)) (λ r. inr (in_map f x xs r)) h

pub map_in : {A B : Type 0} (f : A → B) (y : B) (xs : List A) → In y (map f xs) → (x : A) × In x xs × (f x ≡ y)
map_in f y [] h = absurd h
map_in f y (x ∷ xs) h = ⊎_elim (λ e. (x, inl refl, e)) (λ r. let q = map_in f y xs r in (q.0, inr q.1, q.2)) h

pub in_flat_map : {A B : Type 0} (f : A → List B) (x : A) (y : B) (xs : List A) → In x xs → In y (f x) → In y (flat_map f xs)
in_flat_map f x y [] h k = absurd h
in_flat_map f x y (z ∷ xs) h k =
    ⊎_elim (λ e. in_append_left y (f z) (flat_map f xs) (subst (λ w. In y (f w)) (sym e) k)) (λ r. in_append_right y (f z) (flat_map f xs) (in_flat_map f x y xs r k)) h

pub flat_map_in : {A B : Type 0} (f : A → List B) (y : B) (xs : List A) → In y (flat_map f xs) → (x : A) × In x xs × In y (f x)
flat_map_in f y [] h = absurd h
flat_map_in f y (x ∷ xs) h =
    ⊎_elim (λ a. (x, inl refl, a)) (λ r. let q = flat_map_in f y xs r in (q.0, inr q.1, q.2)) (append_in y (f x) (flat_map f xs) h)

pub in_filter : {A : Type 0} (p : A → Bool) (x : A) (xs : List A) → In x xs → p x ≡ true → In x (filter p xs)
in_filter p x [] h t = absurd h
in_filter p x (y ∷ xs) h t =
    ⊎_elim (λ e. subst (λ c. In x (cond c (y ∷ filter p xs) (filter p xs))) (sym (ap p e ∙ t)) (inl e)) (λ r. later (p y) (in_filter p x xs r t)) h
  where
    later : (b : Bool) → In x (filter p xs) → In x (cond b (y ∷ filter p xs) (filter p xs))
    later true r = inr r
    later false r = r

pub filter_in : {A : Type 0} (p : A → Bool) (x : A) (xs : List A) → In x (filter p xs) → In x xs × (p x ≡ true)
filter_in p x [] h = absurd h
filter_in p x (y ∷ xs) h = go (p y) refl h (filter_in p x xs)
  where
    go : (b : Bool) → p y ≡ b → In x (cond b (y ∷ filter p xs) (filter p xs)) → (In x (filter p xs) → In x xs × (p x ≡ true)) → In x (y ∷ xs) × (p x ≡ true)
    go true is k later = ⊎_elim (λ e. (inl e, sym (ap p e) ∙ is)) (λ r. let q = later r in (inr q.0, q.1)) k
    go false is k later = let q = later k in (inr q.0, q.1)

pub in_all : {A : Type 0} (P : A → Type 0) (xs : List A) → AllByRecursion P xs → (x : A) → In x xs → P x
in_all P [] all x h = absurd h
in_all P (y ∷ xs) all x h = ⊎_elim (λ e. subst P e all.0) (λ r. in_all P xs all.1 x r) h

pub all_of_each : {A : Type 0} (P : A → Type 0) (xs : List A) → ((x : A) → In x xs → P x) → AllByRecursion P xs
all_of_each P [] h = tt
all_of_each P (x ∷ xs) h = (h x (inl refl), all_of_each P xs (λ y i. h y (inr i)))

pub all-append : {A : Type 0} (P : A → Type 0) (xs ys : List A) → AllByRecursion P xs → AllByRecursion P ys → AllByRecursion P (xs ++ ys)
all-append P [] ys h g = g
all-append P (x ∷ xs) ys h g = (h.0, all-append P xs ys h.1 g)

pub all-parts : {A : Type 0} (P : A → Type 0) (xs ys : List A) → AllByRecursion P (xs ++ ys) → AllByRecursion P xs × AllByRecursion P ys
all-parts P [] ys h = (tt, h)
all-parts P (x ∷ xs) ys h = let r = all-parts P xs ys h.1 in ((h.0, r.0), r.1)

-- elements by their places
pub slice_in_first : {A : Type 0} (xs ys : List A) (k : ℕ) (x : A) → slice_get xs k ≡ Some x → slice_get (xs ++ ys) k ≡ Some x
slice_in_first [] ys k x h = absurd (cc)
slice_in_first (y ∷ xs) ys zero x h = h
slice_in_first (y ∷ xs) ys (suc k) x h = slice_in_first xs ys k x h

pub slice_at_length : {A : Type 0} (xs ys : List A) (x : A) → slice_get (xs ++ x ∷ ys) (length xs) ≡ Some x
slice_at_length [] ys x = refl
slice_at_length (y ∷ xs) ys x = slice_at_length xs ys x

pub slice_before_last : {A : Type 0} (xs : List A) (y x : A) (k : ℕ) → slice_get (xs ++ y ∷ []) k ≡ Some x → (k ≡ length xs → ⊥) → slice_get xs k ≡ Some x
slice_before_last [] y x zero h other = absurd (other refl)
slice_before_last [] y x (suc k) h other = absurd (cc)
slice_before_last (z ∷ xs) y x zero h other = h
slice_before_last (z ∷ xs) y x (suc k) h other = slice_before_last xs y x k h (λ e. other (ap suc e))

pub in_slice : {A : Type 0} (xs : List A) (k : ℕ) (x : A) → slice_get xs k ≡ Some x → In x xs
in_slice [] k x h = absurd (cc)
in_slice (y ∷ xs) zero x h = inl (cc)
in_slice (y ∷ xs) (suc k) x h = inr (in_slice xs k x h)

pub slice_in : {A : Type 0} (xs : List A) (x : A) → In x xs → (k : ℕ) × (slice_get xs k ≡ Some x)
slice_in [] x h = absurd h
slice_in (y ∷ xs) x h = ⊎_elim (λ e. (0, ap Some e)) (λ r. let q = slice_in xs x r in (suc q.0, q.1)) h

pub in_enumerate : {A : Type 0} (xs : List A) (n k : ℕ) (x : A) → slice_get xs k ≡ Some x → In (n + k, x) (enumerate_from n xs)
in_enumerate [] n k x h = absurd (cc)
in_enumerate (y ∷ xs) n zero x h = inl (let e : y ≡ x = cc in let m : n ≡ n + 0 = omega arith in ap (λ w. (n, w)) e ∙ ap (λ w. (w, x)) m)
in_enumerate (y ∷ xs) n (suc k) x h = inr (subst (λ w. In (w, x) (enumerate_from (n + 1) xs)) (let m : n + 1 + k ≡ n + suc k = omega arith in m) (in_enumerate xs (n + 1) k x h))

pub enumerate_in : {A : Type 0} (xs : List A) (n : ℕ) (q : ℕ × A) → In q (enumerate_from n xs) → (k : ℕ) × (q.0 ≡ n + k) × (slice_get xs k ≡ Some q.1)
enumerate_in [] n q h = absurd h
enumerate_in {A} (y ∷ xs) n q h =
    ⊎_elim (λ e. (0, (let m : n ≡ n + 0 = omega arith in sym (ap (λ (w : ℕ × A). w.0) e) ∙ m), ap (λ (w : ℕ × A). Some w.1) e))
    (λ r. let t = enumerate_in xs (n + 1) q r in (suc t.0, (let e = t.1 in omega (arith, e)), t.2)) h

-- between `In` and std's words
pub any_in : {A : Type 0} (P : A → Type 0) (xs : List A) → Any P xs → (x : A) × In x xs × P x
any_in P xs h = (h.1, in_slice xs h.0 h.1 (slice_get_read xs (length xs) h.0 h.1 refl h.2 (sym h.3)), h.4)

pub in_any : {A : Type 0} (P : A → Type 0) (xs : List A) (x : A) → In x xs → P x → Any P xs
in_any P xs x i p = let s = slice_in xs x i in (s.0, x, slice_get_within xs s.0 x s.1, get_or_from_slice_get xs s.0 x x s.1, p)
