-- Names that differ have one number each.
use Rattle.std.proofs.Common.{◌≡◌, ℕ, zero, suc, ◌+◌, ◌<◌, List, [], ◌∷◌, ◌++◌, length, refl, sym, ◌∙◌, ap, subst, arith, ⊎_elim, inl, inr}
use Rattle.std.specs.Prelude.{slice_get, Some, Contains, ◌⊎◌}
use Rattle.std.proofs.lemmas.Option.{slice_get_within, get_or_from_slice_get}
use Rattle.std.proofs.lemmas.Bool.{cases_lt}
use Rattle.ras_logic.proofs.ByPlace.{at_contains}
use Rattle.ras_syntax.specs.Grammar.{Text}
use Rattle.ras_names.specs.Lists.{HasNumber, AreDifferent}

-- in the first list, and in the second
pub in_left : {X : Type 0} (xs ys : List X) (k : ℕ) (x : X) → slice_get xs k ≡ Some x → slice_get (xs ++ ys) k ≡ Some x
in_left [] ys k x e = absurd (cc)
in_left (z ∷ xs) ys zero x e = e
in_left (z ∷ xs) ys (suc k) x e = in_left xs ys k x e

pub in_right : {X : Type 0} (xs ys : List X) (k : ℕ) (x : X) → slice_get ys k ≡ Some x → slice_get (xs ++ ys) (length xs + k) ≡ Some x
in_right [] ys k x e = subst (λ n. slice_get ys n ≡ Some x) (let same : k ≡ 0 + k = omega arith in same) e
in_right (z ∷ xs) ys k x e =
    subst (λ n. slice_get (z ∷ (xs ++ ys)) n ≡ Some x) (let same : suc (length xs + k) ≡ length (z ∷ xs) + k = omega arith in same) (in_right xs ys k x e)

-- where an element of two lists stands
pub in_either : {X : Type 0} (xs ys : List X) (k : ℕ) (x : X) → slice_get (xs ++ ys) k ≡ Some x
    → (slice_get xs k ≡ Some x) ⊎ ((j : ℕ) × (slice_get ys j ≡ Some x))
in_either [] ys k x e = inr (k, e)
in_either (z ∷ xs) ys zero x e = inl e
in_either (z ∷ xs) ys (suc k) x e = in_either xs ys k x e

-- each name has one number
abbrev pub AreNumbered : List Text → Type 0
AreNumbered names = (name : Text) (i j : ℕ) → HasNumber names name i → HasNumber names name j → i ≡ j

-- no name is in both lists
abbrev pub AreApart : List Text → List Text → Type 0
AreApart names others = (name : Text) (i j : ℕ) → HasNumber names name i → HasNumber others name j → ⊥

pub different-numbered : (names : List Text) → AreDifferent names → AreNumbered names
different-numbered names h name i j a b =
    let one = get_or_from_slice_get names i name [] a in
    let other = get_or_from_slice_get names j name [] b in
    ⊎_elim (λ lt. absurd (h i j [] lt (slice_get_within names j name b) (one ∙ sym other)))
    (λ ge. ⊎_elim (λ lt. absurd (h j i [] lt (slice_get_within names i name a) (other ∙ sym one))) (λ le. omega (arith, ge, le)) (cases_lt j i)) (cases_lt i j)

pub left-numbered : (xs ys : List Text) → AreNumbered (xs ++ ys) → AreNumbered xs
left-numbered xs ys h name i j a b = h name i j (in_left xs ys i name a) (in_left xs ys j name b)

pub right-numbered : (xs ys : List Text) → AreNumbered (xs ++ ys) → AreNumbered ys
right-numbered xs ys h name i j a b =
    let e : length xs + i ≡ length xs + j = h name (length xs + i) (length xs + j) (in_right xs ys i name a) (in_right xs ys j name b) in omega (arith, e)

pub numbered-apart : (xs ys : List Text) → AreNumbered (xs ++ ys) → AreApart xs ys
numbered-apart xs ys h name i j a b =
    let e : i ≡ length xs + j = h name i (length xs + j) (in_left xs ys i name a) (in_right xs ys j name b) in
    let lt : i < length xs = slice_get_within xs i name a in omega (arith, e, lt)

-- one name more, which is none of the others
pub numbered-more : (xs : List Text) (name : Text) → AreNumbered xs → (Contains xs name → ⊥) → AreNumbered (xs ++ name ∷ [])
numbered-more xs name h new n i j a b = go (in_either xs (name ∷ []) i n a) (in_either xs (name ∷ []) j n b)
  where
    last : (ys : List Text) (k : ℕ) → slice_get (ys ++ name ∷ []) k ≡ Some n → (slice_get ys k ≡ Some n → ⊥) → k ≡ length ys
    last [] zero e none = refl
    last [] (suc k) e none = absurd (cc)
    last (y ∷ ys) zero e none = absurd (none e)
    last (y ∷ ys) (suc k) e none = ap suc (last ys k e none)

    is_name : (k : ℕ) → slice_get (name ∷ []) k ≡ Some n → name ≡ n
    is_name zero e = cc
    is_name (suc k) e = absurd (cc)

    absent : (k m : ℕ) → slice_get (name ∷ []) k ≡ Some n → slice_get xs m ≡ Some n → ⊥
    absent k m e c = new (subst (Contains xs) (sym (is_name k e)) (at_contains xs m n c))

    go : ((slice_get xs i ≡ Some n) ⊎ ((k : ℕ) × (slice_get (name ∷ []) k ≡ Some n))) → ((slice_get xs j ≡ Some n) ⊎ ((k : ℕ) × (slice_get (name ∷ []) k ≡ Some n))) → i ≡ j
    go (inl p) (inl q) = h n i j p q
    go (inl p) (inr q) = absurd (absent q.0 i q.1 p)
    go (inr p) (inl q) = absurd (absent p.0 j p.1 q)
    go (inr p) (inr q) = last xs i a (absent p.0 i p.1) ∙ sym (last xs j b (absent q.0 j q.1))

-- where exactly an element of two lists stands
pub in_either_at : {X : Type 0} (xs ys : List X) (k : ℕ) (x : X) → slice_get (xs ++ ys) k ≡ Some x
    → (slice_get xs k ≡ Some x) ⊎ ((j : ℕ) × (k ≡ length xs + j) × (slice_get ys j ≡ Some x))
in_either_at [] ys k x e = inr (k, (let same : k ≡ 0 + k = omega arith in same), e)
in_either_at (z ∷ xs) ys zero x e = inl e
in_either_at (z ∷ xs) ys (suc k) x e =
    ⊎_elim (λ left. inl left) (λ right. inr (right.0, (let same : suc k ≡ length (z ∷ xs) + right.0 = omega (arith, right.1) in same), right.2)) (in_either_at xs ys k x e)

pub numbered-append : (xs ys : List Text) → AreNumbered xs → AreNumbered ys → AreApart xs ys → AreNumbered (xs ++ ys)
numbered-append xs ys one other apart n i j a b = go (in_either_at xs ys i n a) (in_either_at xs ys j n b)
  where
    go : ((slice_get xs i ≡ Some n) ⊎ ((k : ℕ) × (i ≡ length xs + k) × (slice_get ys k ≡ Some n)))
        → ((slice_get xs j ≡ Some n) ⊎ ((k : ℕ) × (j ≡ length xs + k) × (slice_get ys k ≡ Some n))) → i ≡ j
    go (inl p) (inl q) = one n i j p q
    go (inl p) (inr q) = absurd (apart n i q.0 p q.2)
    go (inr p) (inl q) = absurd (apart n j p.0 q p.2)
    go (inr p) (inr q) = let e : p.0 ≡ q.0 = other n p.0 q.0 p.2 q.2 in omega (arith, e, p.1, q.1)

pub apart-append : (xs ys zs : List Text) → AreApart xs ys → AreApart xs zs → AreApart xs (ys ++ zs)
apart-append xs ys zs one other n i j a b = ⊎_elim (λ p. one n i j a p) (λ q. other n i q.0 a q.1) (in_either ys zs j n b)
