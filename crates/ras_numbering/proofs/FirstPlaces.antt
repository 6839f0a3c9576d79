-- A name that has a number stands at it first, and lists that are mapped one by one.
use Rattle.std.proofs.Common.{◌≡◌, ℕ, zero, suc, ◌+◌, Bool, true, false, not, cond, List, [], ◌∷◌, ◌++◌, length, map, refl, sym, ◌∙◌, ap, arith}
use Rattle.std.specs.Prelude.{Option, Some, None, slice_get, position, flat_map}
use Rattle.std.specs.List.{position_or_len}
use Rattle.std.specs.Option.{option_map_or}
use Rattle.std.specs.Str.{bytes_eq}
use Rattle.std.proofs.lemmas.Bool.{lt-ltb}
use Rattle.std.proofs.lemmas.List.{map-append}
use Rattle.std.proofs.lemmas.Option.{slice_get_within}
use Rattle.ras_syntax.specs.Grammar.{Text}
use Rattle.ras_names.specs.Lists.{HasNumber, OneByOne}
use Rattle.ras_names.proofs.Numbered.{AreNumbered}
use Rattle.ras_names.proofs.Among.{same_text, text_same, map-map}
use Rattle.ras_numbering.specs.Numbers.{number_in}

first_place : (names : List Text) (name : Text) (n : ℕ) → AreNumbered names → HasNumber names name n → position_or_len (bytes_eq name) names ≡ n
first_place [] name n numbered h = absurd (cc)
first_place (y ∷ ys) name zero numbered h =
    let same : y ≡ name = cc in
    let here : bytes_eq name y ≡ true = same_text name y (sym same) in rw here refl
first_place (y ∷ ys) name (suc n) numbered h = go (bytes_eq name y) refl (first_place ys name n tail h)
  where
    tail : AreNumbered ys
    tail m i j a b = let e : suc i ≡ suc j = numbered m (suc i) (suc j) a b in omega (arith, e)

    go : (b : Bool) → bytes_eq name y ≡ b → position_or_len (bytes_eq name) ys ≡ n → cond (not b) (1 + position_or_len (bytes_eq name) ys) 0 ≡ suc n
    go true e rest =
        let both : 0 ≡ suc n = numbered name 0 (suc n) (ap (λ (t : Text). Some t) (sym (text_same name y e))) h in absurd (omega (arith, both))
    go false e rest = omega (arith, rest)

no_place : (names : List Text) (name : Text) → ((k : ℕ) → HasNumber names name k → ⊥) → position_or_len (bytes_eq name) names ≡ length names
no_place [] name none = refl
no_place (y ∷ ys) name none = go (bytes_eq name y) refl (no_place ys name (λ k. none (suc k)))
  where
    go : (b : Bool) → bytes_eq name y ≡ b → position_or_len (bytes_eq name) ys ≡ length ys → cond (not b) (1 + position_or_len (bytes_eq name) ys) 0 ≡ suc (length ys)
    go true e rest = absurd (none 0 (ap (λ (t : Text). Some t) (sym (text_same name y e))))
    go false e rest = omega (arith, rest)

-- among names that differ, a name that has a number is found at it
pub position_is : (names : List Text) (name : Text) (n : ℕ) → AreNumbered names → HasNumber names name n → position (bytes_eq name) names ≡ Some n
position_is names name n numbered h = rw (first_place names name n numbered h, lt-ltb n (length names) (slice_get_within names n name h)) refl

pub position_none : (names : List Text) (name : Text) → ((k : ℕ) → HasNumber names name k → ⊥) → position (bytes_eq name) names ≡ None
position_none names name none = grind (arith, no_place names name none)

pub number_is : (names : List Text) (name : Text) (n : ℕ) → AreNumbered names → HasNumber names name n → number_in names name ≡ n
number_is names name n numbered h = ap (λ (o : Option ℕ). option_map_or (λ (k : ℕ). k) o 0) (position_is names name n numbered h)

-- a list is the map of another, where each element is that of its partner
pub map_is : {A B : Type 0} (R : A → B → Type 0) (f : A → B) (xs : List A) (ys : List B) → OneByOne R xs ys → ((k : ℕ) (x : A) (y : B) → slice_get xs k ≡ Some x → R x y → f x ≡ y) → map f xs ≡ ys
map_is R f [] [] h each = refl
map_is R f [] (y ∷ ys) h each = absurd h
map_is R f (x ∷ xs) [] h each = absurd h
map_is {A} {B} R f (x ∷ xs) (y ∷ ys) h each =
    ap (λ (z : B). z ∷ map f xs) (each 0 x y refl h.0) ∙ ap (λ (zs : List B). y ∷ zs) (map_is R f xs ys h.1 (λ k z w at. each (suc k) z w at))

-- the parts of each element, each with its element
abbrev pub with_parts : {X Y : Type 0} → (X → List Y) → List X → List (X × Y)
with_parts {X} {Y} parts xs = flat_map (λ (x : X). map (λ (y : Y). (x, y)) (parts x)) xs

pub parts_mapped : {X Y B : Type 0} (parts : X → List Y) (value : X → Y → B) (xs : List X) → flat_map (λ (x : X). map (value x) (parts x)) xs ≡ map (λ (z : X × Y). value z.0 z.1) (with_parts parts xs)
parts_mapped parts value [] = refl
parts_mapped {X} {Y} {B} parts value (x ∷ xs) =
    let own : List (X × Y) = map (λ (y : Y). (x, y)) (parts x) in
    let f : X × Y → B = λ z. value z.0 z.1 in
    ap (λ (ws : List B). map (value x) (parts x) ++ ws) (parts_mapped parts value xs)
    ∙ ap (λ (ws : List B). ws ++ map f (with_parts parts xs)) (sym (map-map f (λ (y : Y). (x, y)) (parts x)))
    ∙ sym (map-append f own (with_parts parts xs))

pub with_parts_mapped : {X Y W Z : Type 0} (parts : X → List Y) (more : W → List Z) (f : X → W) (g : Y → Z) → ((x : X) → more (f x) ≡ map g (parts x)) → (xs : List X)
    → with_parts more (map f xs) ≡ map (λ (z : X × Y). (f z.0, g z.1)) (with_parts parts xs)
with_parts_mapped parts more f g same [] = refl
with_parts_mapped {X} {Y} {W} {Z} parts more f g same (x ∷ xs) =
    let own : List (X × Y) = map (λ (y : Y). (x, y)) (parts x) in
    let both : X × Y → W × Z = λ z. (f z.0, g z.1) in
    let pair : Z → W × Z = λ z. (f x, z) in
    ap (λ (zs : List Z). map pair zs ++ with_parts more (map f xs)) (same x)
    ∙ ap (λ (ps : List (W × Z)). ps ++ with_parts more (map f xs)) (map-map pair g (parts x) ∙ sym (map-map both (λ (y : Y). (x, y)) (parts x)))
    ∙ ap (λ (ps : List (W × Z)). map both own ++ ps) (with_parts_mapped parts more f g same xs)
    ∙ sym (map-append both own (with_parts parts xs))
