-- Lists that go together one by one are written alike.
use Rattle.std.proofs.Common.{◌≡◌, ℕ, suc, ◌+◌, List, [], ◌∷◌, ◌++◌, refl, ◌∙◌, ap, length, take, drop, map, flat_map, arith}
use Rattle.std.specs.Prelude.{slice_get, Some}
use Rattle.ras_names.specs.Lists.{OneByOne}
use Rattle.ras_print.specs.Printed.{numbered}

pub two : (a b c d : List ℕ) → a ≡ b → c ≡ d → a ++ c ≡ b ++ d
two a b c d e h = ap (λ (x : List ℕ). x ++ c) e ∙ ap (λ (x : List ℕ). b ++ x) h

module _ {A B : Type 0} (R : A → B → Type 0) where
  pub same-map : (h : B → A) (xs : List A) (ys : List B) → ((k : ℕ) (x : A) (y : B) → slice_get xs k ≡ Some x → R x y → h y ≡ x) → OneByOne R xs ys → map h ys ≡ xs
  same-map h [] [] f o = refl
  same-map h [] (y ∷ ys) f o = absurd o
  same-map h (x ∷ xs) [] f o = absurd o
  same-map h (x ∷ xs) (y ∷ ys) f o =
      ap (λ (z : A). z ∷ map h ys) (f 0 x y refl o.0) ∙ ap (λ (zs : List A). x ∷ zs) (same-map h xs ys (λ k. f (suc k)) o.1)

  pub same-flat : (f : A → List ℕ) (g : B → List ℕ) (xs : List A) (ys : List B) → ((x : A) (y : B) → R x y → f x ≡ g y) → OneByOne R xs ys → flat_map f xs ≡ flat_map g ys
  same-flat f g [] [] same o = refl
  same-flat f g [] (y ∷ ys) same o = absurd o
  same-flat f g (x ∷ xs) [] same o = absurd o
  same-flat f g (x ∷ xs) (y ∷ ys) same o = two (f x) (g y) (flat_map f xs) (flat_map g ys) (same x y o.0) (same-flat f g xs ys same o.1)

  pub same-numbered : (f : A → List ℕ) (g : ℕ → B → List ℕ) (n : ℕ) (xs : List A) (ys : List B)
      → ((k : ℕ) (x : A) (y : B) → slice_get xs k ≡ Some x → slice_get ys k ≡ Some y → R x y → f x ≡ g (n + k) y) → OneByOne R xs ys → flat_map f xs ≡ numbered g n ys
  same-numbered f g n [] [] same o = refl
  same-numbered f g n [] (y ∷ ys) same o = absurd o
  same-numbered f g n (x ∷ xs) [] same o = absurd o
  same-numbered f g n (x ∷ xs) (y ∷ ys) same o =
      let zero_more : n + 0 ≡ n = omega arith in
      two (f x) (g n y) (flat_map f xs) (numbered g (n + 1) ys)
      (same 0 x y refl refl o.0 ∙ ap (λ (m : ℕ). g m y) zero_more)
      (same-numbered f g (n + 1) xs ys
      (λ k z w e i r. same (suc k) z w e i r ∙ (let q : n + suc k ≡ n + 1 + k = omega arith in ap (λ (m : ℕ). g m w) q)) o.1)

  -- what goes together with the front of a list, and with what is behind it
  pub record Parts (xs zs : List A) (ys : List B) : Type 0 where
    pub front : OneByOne R xs (take (length xs) ys)
    pub back : OneByOne R zs (drop (length xs) ys)

  pub parts : (xs zs : List A) (ys : List B) → OneByOne R (xs ++ zs) ys → Parts xs zs ys
  parts [] zs ys o = record { front = tt; back = o }
  parts (x ∷ xs) zs [] o = absurd o
  parts (x ∷ xs) zs (y ∷ ys) o = let p = parts xs zs ys o.1 in record { front = (o.0, p.front); back = p.back }
