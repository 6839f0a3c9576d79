-- Whether facts clash can be told: pairs of terms are added as long as a rule asks for one, and there are only so many.
use Rattle.std.proofs.Common.{◌≡◌, ℕ, zero, suc, ◌+◌, ◌<◌, ◌≤◌, Bool, true, false, List, [], ◌∷◌, ◌++◌, map, length, get_or, drop, refl, sym, ◌∙◌, ap, subst, arith, ◌⊎◌, inl, inr, ⊎_elim, append_assoc, append-nil, length-append}
use Rattle.std.specs.Prelude.{Option, Some, None, slice_get, Contains}
use Rattle.std.proofs.lemmas.Bool.{cases_eq}
use Rattle.std.proofs.lemmas.Option.{same_Some, slice_get_within}
use Rattle.ras_logic.specs.declared.ids.FunId.{FunId}
use Rattle.ras_logic.specs.declared.ids.SortId.{SortId}
use Rattle.ras_logic.specs.declared.ids.ConstId.{ConstId}
use Rattle.ras_logic.specs.declared.function.FunDecl.{FunDecl}
use Rattle.ras_logic.specs.declared.term.Base.{Base}
use Rattle.ras_logic.specs.declared.term.Base.TheVariants.{Var, Cell, Constant, Undef, Param}
use Rattle.ras_logic.specs.declared.term.Term.{Term}
use Rattle.ras_logic.specs.declared.literal.Literal.{Literal}
use Rattle.ras_logic.specs.declared.literal.Literal.TheVariants.{Equal}
use Rattle.ras_logic.specs.Schemas.{SchemaParts, HasSorts, IsSchema}
use Rattle.ras_logic.specs.Terms.{constant_term, undef_term, image_term}
use Rattle.ras_logic.specs.Clashes.{sides, IsPrefixOf, IsTerm, of_literals, a_constant, an_undef, Together, reflexive, symmetric, transitive, stated, same_images, image_of_undef, only_undef, stated_apart, two_constants, constant_undef, FactsClash}
use Rattle.ras_logic.proofs.Elements.{contains-here, contains-later, contains_cases, from_known}
use Rattle.ras_refute.proofs.Entries.{same_term}
use Rattle.ras_violation.proofs.Decisions.{Decided, by_both, decided_both, decided_some}

decided_or : {P Q : Type 0} → Decided P → Decided Q → Decided (P ⊎ Q)
decided_or (inl p) q = inl (inl p)
decided_or (inr none) (inl q) = inl (inr q)
decided_or (inr none) (inr other) = inr (λ e. ⊎_elim none other e)

-- it holds of one of the elements
module _ {X : Type 0} where
  abbrev Among : (X → Type 0) → List X → Type 0
  Among P [] = ⊥
  Among P (x ∷ xs) = P x ⊎ Among P xs

  decided_among : (P : X → Type 0) → ((x : X) → Decided (P x)) → (xs : List X) → Decided (Among P xs)
  decided_among P each [] = inr (λ h. h)
  decided_among P each (x ∷ xs) = decided_or (each x) (decided_among P each xs)

  among_as : (P Q : X → Type 0) → ((x : X) → P x → Q x) → (xs : List X) → Among P xs → Among Q xs
  among_as P Q f [] h = h
  among_as P Q f (x ∷ xs) (inl p) = inl (f x p)
  among_as P Q f (x ∷ xs) (inr h) = inr (among_as P Q f xs h)

  among_of : (P : X → Type 0) (xs : List X) (x : X) → Contains xs x → P x → Among P xs
  among_of P [] x inside p = absurd (let lt = inside.1 in omega (arith, lt))
  among_of P (y ∷ ys) x inside p = ⊎_elim (λ e. inl (subst P (sym e) p)) (λ later. inr (among_of P ys x later p)) (contains_cases y x ys inside)

  abbrev One : (X → Type 0) → List X → Type 0
  One P xs = (x : X) × Contains xs x × P x

  among_given : (P : X → Type 0) (xs : List X) → Among P xs → One P xs
  among_given P [] h = absurd h
  among_given P (x ∷ xs) (inl p) = (x, contains-here x xs, p)
  among_given P (x ∷ xs) (inr h) = let r = among_given P xs h in (r.0, contains-later x r.0 xs r.1, r.2)

  among_left : (P : X → Type 0) (xs ys : List X) → Among P xs → Among P (xs ++ ys)
  among_left P [] ys h = absurd h
  among_left P (x ∷ xs) ys (inl p) = inl p
  among_left P (x ∷ xs) ys (inr h) = inr (among_left P xs ys h)

  among_right : (P : X → Type 0) (xs ys : List X) → Among P ys → Among P (xs ++ ys)
  among_right P [] ys h = h
  among_right P (x ∷ xs) ys h = inr (among_right P xs ys h)

  among_split : (P : X → Type 0) (xs ys : List X) → Among P (xs ++ ys) → Among P xs ⊎ Among P ys
  among_split P [] ys h = inr h
  among_split P (x ∷ xs) ys (inl p) = inl (inl p)
  among_split P (x ∷ xs) ys (inr h) = ⊎_elim (λ p. inl (inr p)) (λ q. inr q) (among_split P xs ys h)

  module _ (same : (x y : X) → Decided (x ≡ y)) where
    same_lists : (xs ys : List X) → Decided (xs ≡ ys)
    same_lists [] [] = inl refl
    same_lists [] (y ∷ ys) = inr (λ e. let l : 0 ≡ length (y ∷ ys) = ap (λ (zs : List X). length zs) e in omega (arith, l))
    same_lists (x ∷ xs) [] = inr (λ e. let l : length (x ∷ xs) ≡ 0 = ap (λ (zs : List X). length zs) e in omega (arith, l))
    same_lists (x ∷ xs) (y ∷ ys) =
        by_both (λ e. ap (λ (z : X). z ∷ xs) e.0 ∙ ap (λ (zs : List X). y ∷ zs) e.1) (λ e. (ap (λ (zs : List X). get_or zs 0 x) e, ap (λ (zs : List X). drop 1 zs) e))
        (decided_both (same x y) (same_lists xs ys))

module _ {X Y : Type 0} (f : X → Y) (P : Y → Type 0) where
  among_mapped : (xs : List X) → Among (λ x. P (f x)) xs → Among P (map f xs)
  among_mapped [] h = h
  among_mapped (x ∷ xs) (inl p) = inl p
  among_mapped (x ∷ xs) (inr h) = inr (among_mapped xs h)

  among_unmapped : (xs : List X) → Among P (map f xs) → Among (λ x. P (f x)) xs
  among_unmapped [] h = h
  among_unmapped (x ∷ xs) (inl p) = inl p
  among_unmapped (x ∷ xs) (inr h) = inr (among_unmapped xs h)

-- whether two terms, and two literals, are the same
abbrev code : Base → List ℕ
code (Var v) = 0 ∷ v.n ∷ 0 ∷ []
code (Cell row column) = 1 ∷ row ∷ column ∷ []
code (Constant c) = 2 ∷ c.n ∷ 0 ∷ []
code (Undef s) = 3 ∷ s.n ∷ 0 ∷ []
code (Param p) = 4 ∷ p ∷ 0 ∷ []

abbrev coded : ℕ → ℕ → ℕ → Base
coded zero a b = Var (record { n = a })
coded (suc zero) a b = Cell a b
coded (suc (suc zero)) a b = Constant (record { n = a })
coded (suc (suc (suc zero))) a b = Undef (record { n = a })
coded (suc (suc (suc (suc k)))) a b = Param a

abbrev decode : List ℕ → Base
decode c = coded (get_or c 0 0) (get_or c 1 0) (get_or c 2 0)

decode_code : (b : Base) → decode (code b) ≡ b
decode_code (Var v) = refl
decode_code (Cell row column) = refl
decode_code (Constant c) = refl
decode_code (Undef s) = refl
decode_code (Param p) = refl

same_base : (a b : Base) → Decided (a ≡ b)
same_base a b = by_both (λ e. sym (decode_code a) ∙ ap decode e ∙ decode_code b) (λ e. ap code e) (same_lists cases_eq (code a) (code b))

same_function : (f g : FunId) → Decided (f ≡ g)
same_function f g = by_both (λ e. ap (λ (n : ℕ). let h : FunId = record { n = n } in h) e) (λ e. ap (λ (h : FunId). h.n) e) (cases_eq f.n g.n)

same_terms : (s t : Term) → Decided (s ≡ t)
same_terms s t =
    by_both (λ e. same_term s t e.0 e.1) (λ e. (ap (λ (u : Term). u.base) e, ap (λ (u : Term). u.path) e)) (decided_both (same_base s.base t.base) (same_lists same_function s.path t.path))

decided_true : (b : Bool) → Decided (b ≡ true)
decided_true true = inl refl
decided_true false = inr (λ e. absurd (cc))

no_image : (t : Term) (f : FunId) → [] ≡ t.path ++ f ∷ [] → ⊥
no_image t f e = let l : 0 ≡ length t.path + 1 = ap (λ (zs : List FunId). length zs) e ∙ length-append t.path (f ∷ []) in omega (arith, l)

same_constant : (c e : ConstId) → Decided (c ≡ e)
same_constant c e = by_both (λ h. ap (λ (n : ℕ). let k : ConstId = record { n = n } in k) h) (λ h. ap (λ (k : ConstId). k.n) h) (cases_eq c.n e.n)

one_constant : (c e : ConstId) → constant_term c ≡ constant_term e → c ≡ e
one_constant c e h = ap (λ (n : ℕ). let k : ConstId = record { n = n } in k) (ap (λ (t : Term). get_or (code t.base) 1 0) h)

-- whether a term is a constant or the undef of a sort, alone
constant_in : (t : Term) → Decided ((c : ConstId) × (t ≡ constant_term c))
constant_in t =
    by_both (λ e. (at t, e)) (λ h. h.1 ∙ ap (λ (u : Term). constant_term (at u)) (sym h.1)) (same_terms t (constant_term (at t)))
  where
    at : Term → ConstId
    at u = record { n = get_or (code u.base) 1 0 }

undef_in : (t : Term) → Decided ((x : SortId) × (t ≡ undef_term x))
undef_in t =
    by_both (λ e. (at t, e)) (λ h. h.1 ∙ ap (λ (u : Term). undef_term (at u)) (sym h.1)) (same_terms t (undef_term (at t)))
  where
    at : Term → SortId
    at u = record { n = get_or (code u.base) 1 0 }

-- pairs of terms
abbrev Pairs : Type 0
Pairs = List (Term × Term)

abbrev Has : Pairs → Term → Term → Type 0
Has have s t = Among (λ (p : Term × Term). (p.0 ≡ s) × (p.1 ≡ t)) have

decided_has : (have : Pairs) (s t : Term) → Decided (Has have s t)
decided_has have s t = decided_among (λ (p : Term × Term). (p.0 ≡ s) × (p.1 ≡ t)) (λ p. decided_both (same_terms p.0 s) (same_terms p.1 t)) have

has_of : (have : Pairs) (p : Term × Term) → Contains have p → Has have p.0 p.1
has_of have p inside = among_of (λ (q : Term × Term). (q.0 ≡ p.0) × (q.1 ≡ p.1)) have p inside (refl, refl)

abbrev pairs : List Term → List Term → Pairs
pairs [] ys = []
pairs (x ∷ xs) ys = map (λ (y : Term). (x, y)) ys ++ pairs xs ys

module _ (s t : Term) where
  abbrev Here : Term × Term → Type 0
  Here p = (p.0 ≡ s) × (p.1 ≡ t)

  has_pair : (xs ys : List Term) → Among (λ (x : Term). x ≡ s) xs → Among (λ (y : Term). y ≡ t) ys → Has (pairs xs ys) s t
  has_pair [] ys h k = absurd h
  has_pair (x ∷ xs) ys (inl e) k =
      among_left Here (map (λ (y : Term). (x, y)) ys) (pairs xs ys) (among_mapped (λ (y : Term). (x, y)) Here ys (among_as (λ (y : Term). y ≡ t) (λ (y : Term). (x ≡ s) × (y ≡ t)) (λ y h. (e, h)) ys k))
  has_pair (x ∷ xs) ys (inr h) k = among_right Here (map (λ (y : Term). (x, y)) ys) (pairs xs ys) (has_pair xs ys h k)

  pair_known : (xs ys : List Term) → Has (pairs xs ys) s t → Among (λ (x : Term). x ≡ s) xs × Among (λ (y : Term). y ≡ t) ys
  pair_known [] ys h = absurd h
  pair_known (x ∷ xs) ys h = ⊎_elim first (λ k. later (pair_known xs ys k)) (among_split Here (map (λ (y : Term). (x, y)) ys) (pairs xs ys) h)
    where
      first : Among Here (map (λ (y : Term). (x, y)) ys) → Among (λ (z : Term). z ≡ s) (x ∷ xs) × Among (λ (y : Term). y ≡ t) ys
      first k =
          let one = among_given (λ (y : Term). (x ≡ s) × (y ≡ t)) ys (among_unmapped (λ (y : Term). (x, y)) Here ys k) in
          (inl one.2.0, among_of (λ (y : Term). y ≡ t) ys one.0 one.1 one.2.1)

      later : Among (λ (z : Term). z ≡ s) xs × Among (λ (y : Term). y ≡ t) ys → Among (λ (z : Term). z ≡ s) (x ∷ xs) × Among (λ (y : Term). y ≡ t) ys
      later rest = (inr rest.0, rest.1)

-- the fronts of a path, and the terms with them
abbrev fronts : List FunId → List (List FunId)
fronts [] = [] ∷ []
fronts (f ∷ fs) = [] ∷ map (λ (path : List FunId). f ∷ path) (fronts fs)

fronts_has : (path rest : List FunId) → Among (λ (q : List FunId). q ≡ path) (fronts (path ++ rest))
fronts_has [] [] = inl refl
fronts_has [] (f ∷ rest) = inl refl
fronts_has (f ∷ path) rest =
    inr (among_mapped (λ (q : List FunId). f ∷ q) (λ (q : List FunId). q ≡ f ∷ path) (fronts (path ++ rest))
    (among_as (λ (q : List FunId). q ≡ path) (λ (q : List FunId). f ∷ q ≡ f ∷ path) (λ q e. ap (λ (r : List FunId). f ∷ r) e) (fronts (path ++ rest)) (fronts_has path rest)))

fronts_are : (whole path : List FunId) → Among (λ (q : List FunId). q ≡ path) (fronts whole) → (rest : List FunId) × (whole ≡ path ++ rest)
fronts_are [] path (inl e) = ([], ap (λ (q : List FunId). q ++ []) e)
fronts_are [] path (inr h) = absurd h
fronts_are (f ∷ fs) path (inl e) = (f ∷ fs, ap (λ (q : List FunId). q ++ f ∷ fs) e)
fronts_are (f ∷ fs) path (inr h) =
    let one = among_given (λ (q : List FunId). f ∷ q ≡ path) (fronts fs) (among_unmapped (λ (q : List FunId). f ∷ q) (λ (q : List FunId). q ≡ path) (fronts fs) h) in
    let rest = fronts_are fs one.0 (among_of (λ (q : List FunId). q ≡ one.0) (fronts fs) one.0 one.1 refl) in
    (rest.0, ap (λ (q : List FunId). f ∷ q) rest.1 ∙ ap (λ (q : List FunId). q ++ rest.0) one.2)

abbrev on_base : Base → List FunId → Term
on_base b path = record { base = b; path = path }

abbrev terms_of_sides : List Term → List Term
terms_of_sides [] = []
terms_of_sides (t ∷ ts) = map (on_base t.base) (fronts t.path) ++ terms_of_sides ts

abbrev below : ℕ → List ℕ
below zero = []
below (suc n) = n ∷ below n

below_has : (n k : ℕ) → k < n → Among (λ (m : ℕ). m ≡ k) (below n)
below_has zero k lt = absurd (omega (arith, lt))
below_has (suc n) k lt = ⊎_elim (λ e. inl (sym e)) (λ (ne : k ≡ n → ⊥). inr (below_has n k (omega (arith, lt, ne)))) (cases_eq k n)

below_are : (n k : ℕ) → Among (λ (m : ℕ). m ≡ k) (below n) → k < n
below_are zero k h = absurd h
below_are (suc n) k (inl e) = omega (arith, e)
below_are (suc n) k (inr h) = let lt = below_are n k h in omega (arith, lt)

abbrev constant_of : ℕ → Term
constant_of n = constant_term (record { n = n })

abbrev undef_of : ℕ → Term
undef_of n = undef_term (record { n = n })

module _ (schema : SchemaParts) (facts : List Literal) where
  abbrev Known : Term → Type 0
  Known t = IsTerm schema facts t

  abbrev terms : List Term
  terms = terms_of_sides (sides facts) ++ (map constant_of (below (length schema.constants)) ++ map undef_of (below schema.sorts))

  module _ (t : Term) where
    abbrev Is : Term → Type 0
    Is u = u ≡ t

    side_has : (ts : List Term) (whole : Term) → Contains ts whole → IsPrefixOf t whole → Among Is (terms_of_sides ts)
    side_has [] whole inside pre = absurd (let lt = inside.1 in omega (arith, lt))
    side_has (u ∷ ts) whole inside pre = ⊎_elim here (λ later. among_right Is (map (on_base u.base) (fronts u.path)) (terms_of_sides ts) (side_has ts whole later pre)) (contains_cases u whole ts inside)
      where
        here : u ≡ whole → Among Is (terms_of_sides (u ∷ ts))
        here e =
            let base : t.base ≡ u.base = pre.0 ∙ sym (ap (λ (v : Term). v.base) e) in
            let path : u.path ≡ t.path ++ pre.1.0 = ap (λ (v : Term). v.path) e ∙ pre.1.1 in
            let found : Among (λ (q : List FunId). q ≡ t.path) (fronts u.path) = subst (λ (w : List FunId). Among (λ (q : List FunId). q ≡ t.path) (fronts w)) (sym path) (fronts_has t.path pre.1.0) in
            among_left Is (map (on_base u.base) (fronts u.path)) (terms_of_sides ts)
            (among_mapped (on_base u.base) Is (fronts u.path) (among_as (λ (q : List FunId). q ≡ t.path) (λ (q : List FunId). on_base u.base q ≡ t) (λ q h. same_term (on_base u.base q) t (sym base) h) (fronts u.path) found))

    side_is : (ts : List Term) → ((u : Term) → Contains ts u → Contains (sides facts) u) → Among Is (terms_of_sides ts) → Known t
    side_is [] all h = absurd h
    side_is (u ∷ ts) all h =
        ⊎_elim here (λ later. side_is ts (λ v inside. all v (contains-later u v ts inside)) later) (among_split Is (map (on_base u.base) (fronts u.path)) (terms_of_sides ts) h)
      where
        here : Among Is (map (on_base u.base) (fronts u.path)) → Known t
        here k =
            let one = among_given (λ (q : List FunId). on_base u.base q ≡ t) (fronts u.path) (among_unmapped (on_base u.base) Is (fronts u.path) k) in
            let front = fronts_are u.path one.0 (among_of (λ (q : List FunId). q ≡ one.0) (fronts u.path) one.0 one.1 refl) in
            let path : one.0 ≡ t.path = ap (λ (v : Term). v.path) one.2 in
            of_literals {p = t} u (all u (contains-here u ts)) (sym (ap (λ (v : Term). v.base) one.2), (front.0, front.1 ∙ ap (λ (q : List FunId). q ++ front.0) path))

  terms_has : (t : Term) → Known t → Among (Is t) terms
  terms_has t (of_literals whole inside pre) =
      among_left (Is t) (terms_of_sides (sides facts)) (map constant_of (below (length schema.constants)) ++ map undef_of (below schema.sorts)) (side_has t (sides facts) whole inside pre)
  terms_has t (a_constant c lt) =
      among_right (Is (constant_term c)) (terms_of_sides (sides facts)) (map constant_of (below (length schema.constants)) ++ map undef_of (below schema.sorts))
      (among_left (Is (constant_term c)) (map constant_of (below (length schema.constants))) (map undef_of (below schema.sorts))
      (among_mapped constant_of (Is (constant_term c)) (below (length schema.constants))
      (among_as (λ (m : ℕ). m ≡ c.n) (λ (m : ℕ). constant_of m ≡ constant_term c) (λ m e. ap constant_of e) (below (length schema.constants)) (below_has (length schema.constants) c.n lt))))
  terms_has t (an_undef s lt) =
      among_right (Is (undef_term s)) (terms_of_sides (sides facts)) (map constant_of (below (length schema.constants)) ++ map undef_of (below schema.sorts))
      (among_right (Is (undef_term s)) (map constant_of (below (length schema.constants))) (map undef_of (below schema.sorts))
      (among_mapped undef_of (Is (undef_term s)) (below schema.sorts)
      (among_as (λ (m : ℕ). m ≡ s.n) (λ (m : ℕ). undef_of m ≡ undef_term s) (λ m e. ap undef_of e) (below schema.sorts) (below_has schema.sorts s.n lt))))

  terms_are : (t : Term) → Among (Is t) terms → Known t
  terms_are t h =
      ⊎_elim (side_is t (sides facts) (λ u inside. inside)) others (among_split (Is t) (terms_of_sides (sides facts)) (map constant_of (below (length schema.constants)) ++ map undef_of (below schema.sorts)) h)
    where
      constant : Among (Is t) (map constant_of (below (length schema.constants))) → Known t
      constant k =
          let one = among_given (λ (m : ℕ). constant_of m ≡ t) (below (length schema.constants)) (among_unmapped constant_of (Is t) (below (length schema.constants)) k) in
          let lt = below_are (length schema.constants) one.0 (among_of (λ (m : ℕ). m ≡ one.0) (below (length schema.constants)) one.0 one.1 refl) in
          subst Known one.2 (a_constant (record { n = one.0 }) lt)

      undef : Among (Is t) (map undef_of (below schema.sorts)) → Known t
      undef k =
          let one = among_given (λ (m : ℕ). undef_of m ≡ t) (below schema.sorts) (among_unmapped undef_of (Is t) (below schema.sorts) k) in
          let lt = below_are schema.sorts one.0 (among_of (λ (m : ℕ). m ≡ one.0) (below schema.sorts) one.0 one.1 refl) in
          subst Known one.2 (an_undef (record { n = one.0 }) lt)

      others : Among (Is t) (map constant_of (below (length schema.constants)) ++ map undef_of (below schema.sorts)) → Known t
      others k = ⊎_elim constant undef (among_split (Is t) (map constant_of (below (length schema.constants))) (map undef_of (below schema.sorts)) k)

  -- what a rule asks for
  abbrev Linked : Term → Term → Type 0
  Linked s t = Together schema facts (Contains facts) s t

  abbrev At : FunId → (FunDecl → Type 0) → Type 0
  At f P = (d : FunDecl) × (slice_get schema.functions f.n ≡ Some d) × P d

  decided_at : (f : FunId) (P : FunDecl → Type 0) → ((d : FunDecl) → Decided (P d)) → Decided (At f P)
  decided_at f P each = go (slice_get schema.functions f.n) refl
    where
      go : (o : Option FunDecl) → slice_get schema.functions f.n ≡ o → Decided (At f P)
      go None none = inr (λ h. absurd (let both = sym none ∙ h.1 in cc))
      go (Some d) known = by_both (λ p. (d, known, p)) (λ h. subst P (same_Some h.0 d (sym h.1 ∙ known)) h.2) (each d)

  abbrev function : ℕ → FunId
  function k = record { n = k }

  module _ (have : Pairs) (s t : Term) where
    abbrev ByOther : Term × Term → Type 0
    ByOther p = (p.0 ≡ s) × Has have p.1 t

    abbrev ByFact : Literal → Type 0
    ByFact l = l ≡ Equal s t true

    abbrev AreImages : Term × Term → FunId → Type 0
    AreImages p f = (s ≡ image_term p.0 f) × (t ≡ image_term p.1 f)

    abbrev ByImages : Term × Term → Type 0
    ByImages p = Among (AreImages p) s.path

    abbrev AreUndef : Term × Term → FunDecl → Type 0
    AreUndef p d = (p.1 ≡ undef_term d.source) × (t ≡ undef_term d.target)

    abbrev IsImageOfUndef : Term × Term → FunId → Type 0
    IsImageOfUndef p f = (s ≡ image_term p.0 f) × At f (AreUndef p)

    abbrev ByUndef : Term × Term → Type 0
    ByUndef p = Among (IsImageOfUndef p) s.path

    abbrev IsOnlyUndef : ℕ → FunDecl → Type 0
    IsOnlyUndef k d = (d.total ≡ true) × ((t ≡ undef_term d.source) × Has have (image_term s (function k)) (undef_term d.target))

    abbrev ByTotal : ℕ → Type 0
    ByTotal k = At (function k) (IsOnlyUndef k)

    abbrev Asked : Type 0
    Asked =
        (s ≡ t) ⊎ (Has have t s ⊎ (Among ByOther have ⊎ (Among ByFact facts ⊎ (Among ByImages have ⊎ (Among ByUndef have ⊎ ((k : ℕ) × (k < length schema.functions) × ByTotal k))))))

    same_fact : (l : Literal) → Decided (ByFact l)
    same_fact (Equal a b same) =
        by_both (λ e. ap (λ (x : Term). Equal x b same) e.0 ∙ ap (λ (y : Term). Equal s y same) e.1.0 ∙ ap (λ (z : Bool). Equal s t z) e.1.1)
        (λ e. (ap left e, (ap right e, ap says e))) (decided_both (same_terms a s) (decided_both (same_terms b t) (decided_true same)))
      where
        left : Literal → Term
        left (Equal x y z) = x

        right : Literal → Term
        right (Equal x y z) = y

        says : Literal → Bool
        says (Equal x y z) = z

    decided_asked : Decided Asked
    decided_asked =
        decided_or (same_terms s t) (decided_or (decided_has have t s)
        (decided_or (decided_among ByOther (λ p. decided_both (same_terms p.0 s) (decided_has have p.1 t)) have)
        (decided_or (decided_among ByFact same_fact facts)
        (decided_or (decided_among ByImages (λ p. decided_among (AreImages p) (λ f. decided_both (same_terms s (image_term p.0 f)) (same_terms t (image_term p.1 f))) s.path) have)
        (decided_or (decided_among ByUndef (λ p. decided_among (IsImageOfUndef p) (λ f. decided_both (same_terms s (image_term p.0 f))
        (decided_at f (AreUndef p) (λ d. decided_both (same_terms p.1 (undef_term d.source)) (same_terms t (undef_term d.target))))) s.path) have)
        (decided_some ByTotal (λ k. decided_at (function k) (IsOnlyUndef k) (λ d. decided_both (decided_true d.total)
        (decided_both (same_terms t (undef_term d.source)) (decided_has have (image_term s (function k)) (undef_term d.target))))) (length schema.functions)))))))

    module _ (sound : (x y : Term) → Has have x y → Linked x y) (known_s : Known s) (known_t : Known t) where
      linked_of : (p : Term × Term) → Contains have p → Linked p.0 p.1
      linked_of p inside = sound p.0 p.1 (has_of have p inside)

      by_other : Among ByOther have → Linked s t
      by_other h =
          let one = among_given ByOther have h in
          transitive s one.0.1 t (subst (λ (x : Term). Linked x one.0.1) one.2.0 (linked_of one.0 one.1)) (sound one.0.1 t one.2.1)

      by_fact : Among ByFact facts → Linked s t
      by_fact h = let one = among_given ByFact facts h in stated s t (subst (Contains facts) one.2 one.1)

      by_images : Among ByImages have → Linked s t
      by_images h =
          let one = among_given ByImages have h in
          let at = among_given (AreImages one.0) s.path one.2 in
          let made : Linked (image_term one.0.0 at.0) (image_term one.0.1 at.0) =
          same_images one.0.0 one.0.1 at.0 (linked_of one.0 one.1) (subst Known at.2.0 known_s) (subst Known at.2.1 known_t) in
          subst (λ (x : Term). Linked x t) (sym at.2.0) (subst (λ (y : Term). Linked (image_term one.0.0 at.0) y) (sym at.2.1) made)

      by_undef : Among ByUndef have → Linked s t
      by_undef h =
          let one = among_given ByUndef have h in
          let at = among_given (IsImageOfUndef one.0) s.path one.2 in
          let d : FunDecl = at.2.1.0 in
          let made : Linked (image_term one.0.0 at.0) (undef_term d.target) =
          image_of_undef one.0.0 at.0 d at.2.1.1 (subst (λ (y : Term). Linked one.0.0 y) at.2.1.2.0 (linked_of one.0 one.1)) (subst Known at.2.0 known_s) in
          subst (λ (x : Term). Linked x t) (sym at.2.0) (subst (λ (y : Term). Linked (image_term one.0.0 at.0) y) (sym at.2.1.2.1) made)

      by_total : (k : ℕ) × (k < length schema.functions) × ByTotal k → Linked s t
      by_total h =
          let d : FunDecl = h.2.0 in
          subst (λ (y : Term). Linked s y) (sym h.2.2.1.0) (only_undef s (function h.0) d h.2.1 h.2.2.0 (sound (image_term s (function h.0)) (undef_term d.target) h.2.2.1.1))

      asked_linked : Asked → Linked s t
      asked_linked (inl e) = subst (λ (y : Term). Linked s y) e (reflexive s known_s)
      asked_linked (inr (inl h)) = symmetric t s (sound t s h)
      asked_linked (inr (inr (inl h))) = by_other h
      asked_linked (inr (inr (inr (inl h)))) = by_fact h
      asked_linked (inr (inr (inr (inr (inl h))))) = by_images h
      asked_linked (inr (inr (inr (inr (inr (inl h)))))) = by_undef h
      asked_linked (inr (inr (inr (inr (inr (inr h)))))) = by_total h

  -- pairs that no rule adds to
  abbrev IsSound : Pairs → Type 0
  IsSound have = (s t : Term) → Has have s t → Linked s t

  abbrev IsClosed : Pairs → Type 0
  IsClosed have = (s t : Term) → Known s → Known t → Asked have s t → Has have s t

  abbrev Found : Type 0
  Found = (have : Pairs) × IsSound have × IsClosed have

  abbrev AskedOf : Pairs → Term × Term → Type 0
  AskedOf have p = Asked have p.0 p.1

  -- one pair that a rule asks for, and the others
  record Taken (have missing : Pairs) : Type 0 where
    pair : Term × Term
    rest : Pairs
    asked : Asked have pair.0 pair.1
    within : Has missing pair.0 pair.1
    fewer : length missing ≡ suc (length rest)
    split : (s t : Term) → Has missing s t → ((pair.0 ≡ s) × (pair.1 ≡ t)) ⊎ Has rest s t
    kept : (s t : Term) → Has rest s t → Has missing s t

  take_out : (have missing : Pairs) → Among (AskedOf have) missing → Taken have missing
  take_out have [] h = absurd h
  take_out have (p ∷ ps) (inl asked) =
      record { pair = p; rest = ps; asked = asked; within = inl (refl, refl); fewer = refl; split = λ s t h. h; kept = λ s t h. inr h }
  take_out have (p ∷ ps) (inr h) = more p ps (take_out have ps h)
    where
      more : (p : Term × Term) (ps : Pairs) → Taken have ps → Taken have (p ∷ ps)
      more p ps o = record {
        pair = o.pair;
        rest = p ∷ o.rest;
        asked = o.asked;
        within = inr o.within;
        fewer = ap suc o.fewer;
        split = λ s t. ⊎_elim (λ e. inr (inl e)) (λ k. ⊎_elim (λ e. inl e) (λ r. inr (inr r)) (o.split s t k));
        kept = λ s t. ⊎_elim (λ e. inl e) (λ r. inr (o.kept s t r));
      }

  abbrev Covers : Pairs → Pairs → Type 0
  Covers have missing = (s t : Term) → Known s → Known t → Has have s t ⊎ Has missing s t

  abbrev AreKnown : Pairs → Type 0
  AreKnown missing = (s t : Term) → Has missing s t → Known s × Known t

  module _ (have missing : Pairs) (sound : IsSound have) (covers : Covers have missing) (known : AreKnown missing) where
    none_asked : (Among (AskedOf have) missing → ⊥) → IsClosed have
    none_asked none s t known_s known_t asked = ⊎_elim (λ h. h) (λ h. absurd (none (here h))) (covers s t known_s known_t)
      where
        here : Has missing s t → Among (AskedOf have) missing
        here h =
            let one = among_given (λ (p : Term × Term). (p.0 ≡ s) × (p.1 ≡ t)) missing h in
            among_of (AskedOf have) missing one.0 one.1 (subst (λ (x : Term). Asked have x one.0.1) (sym one.2.0) (subst (λ (y : Term). Asked have s y) (sym one.2.1) asked))

    module _ (o : Taken have missing) where
      sound_more : IsSound (o.pair ∷ have)
      sound_more s t (inr h) = sound s t h
      sound_more s t (inl e) =
          let at = known o.pair.0 o.pair.1 o.within in
          let made : Linked o.pair.0 o.pair.1 = asked_linked have o.pair.0 o.pair.1 sound at.0 at.1 o.asked in
          subst (λ (x : Term). Linked x t) e.0 (subst (λ (y : Term). Linked o.pair.0 y) e.1 made)

      covers_more : Covers (o.pair ∷ have) o.rest
      covers_more s t known_s known_t = ⊎_elim (λ h. inl (inr h)) (λ h. ⊎_elim (λ e. inl (inl e)) (λ r. inr r) (o.split s t h)) (covers s t known_s known_t)

      known_rest : AreKnown o.rest
      known_rest s t h = known s t (o.kept s t h)

    step : (Taken have missing → Found) → Decided (Among (AskedOf have) missing) → Found
    step later (inl asked) = later (take_out have missing asked)
    step later (inr none) = (have, sound, none_asked none)

  find : (n : ℕ) (have missing : Pairs) → length missing ≤ n → IsSound have → Covers have missing → AreKnown missing → Found
  find zero have missing few sound covers known =
      step have missing sound covers known (λ o. absurd (omega (arith, few, o.fewer))) (decided_among (AskedOf have) (λ p. decided_asked have p.0 p.1) missing)
  find (suc n) have missing few sound covers known =
      step have missing sound covers known
      (λ o. find n (o.pair ∷ have) o.rest (omega (arith, few, o.fewer)) (sound_more have missing sound covers known o) (covers_more have missing sound covers known o) (known_rest have missing sound covers known o))
      (decided_among (AskedOf have) (λ p. decided_asked have p.0 p.1) missing)

  found : Found
  found =
      find (length (pairs terms terms)) [] (pairs terms terms) (omega arith) (λ s t h. absurd h) (λ s t known_s known_t. inr (has_pair s t terms terms (terms_has s known_s) (terms_has t known_t)))
      (λ s t h. let both = pair_known s t terms terms h in (terms_are s both.0, terms_are t both.1))

  -- what is together is among the pairs
  module _ (is : IsSchema schema) (have : Pairs) (closed : IsClosed have) where
    sorts_at : (f : FunId) (d : FunDecl) → slice_get schema.functions f.n ≡ Some d → HasSorts schema.sorts d
    sorts_at f d known = from_known (HasSorts schema.sorts) schema.functions is.functions f.n d known

    front_known : (t : Term) (f : FunId) (u : Term) → Known u → u ≡ image_term t f → Known t
    front_known t f u (of_literals whole inside pre) e =
        of_literals {p = t} whole inside (sym (ap (λ (v : Term). v.base) e) ∙ pre.0, (f ∷ pre.1.0, pre.1.1 ∙ ap (λ (v : Term). v.path ++ pre.1.0) e ∙ append_assoc t.path (f ∷ []) pre.1.0))
    front_known t f u (a_constant c lt) e = absurd (no_image t f (ap (λ (v : Term). v.path) e))
    front_known t f u (an_undef s lt) e = absurd (no_image t f (ap (λ (v : Term). v.path) e))

    last_of : (P : FunId → Type 0) (path : List FunId) (f : FunId) → P f → Among P (path ++ f ∷ [])
    last_of P path f p = among_right P path (f ∷ []) (inl p)

    abbrev Has2 : Term → Term → Type 0
    Has2 s t = Known s × Known t × Has have s t

    images : (s t : Term) (f : FunId) → Has2 s t → Known (image_term s f) → Known (image_term t f) → Has2 (image_term s f) (image_term t f)
    images s t f h known_s known_t =
        let one = among_given (λ (p : Term × Term). (p.0 ≡ s) × (p.1 ≡ t)) have h.2 in
        let at : AreImages have (image_term s f) (image_term t f) one.0 f = (ap (λ (u : Term). image_term u f) (sym one.2.0), ap (λ (u : Term). image_term u f) (sym one.2.1)) in (
          known_s,
          known_t,
          closed (image_term s f) (image_term t f) known_s known_t
              (inr (inr (inr (inr (inl (among_of (ByImages have (image_term s f) (image_term t f)) have one.0 one.1
              (last_of (AreImages have (image_term s f) (image_term t f) one.0) s.path f at))))))),
        )

    of_undef : (t : Term) (f : FunId) (d : FunDecl) → slice_get schema.functions f.n ≡ Some d → Has2 t (undef_term d.source) → Known (image_term t f) → Has2 (image_term t f) (undef_term d.target)
    of_undef t f d known h known_t =
        let sorts = sorts_at f d known in
        let one = among_given (λ (p : Term × Term). (p.0 ≡ t) × (p.1 ≡ undef_term d.source)) have h.2 in
        let at : IsImageOfUndef have (image_term t f) (undef_term d.target) one.0 f = (ap (λ (u : Term). image_term u f) (sym one.2.0), (d, known, (one.2.1, refl))) in
        let known_undef : Known (undef_term d.target) = an_undef d.target sorts.1 in (
          known_t,
          known_undef,
          closed (image_term t f) (undef_term d.target) known_t known_undef
              (inr (inr (inr (inr (inr (inl (among_of (ByUndef have (image_term t f) (undef_term d.target)) have one.0 one.1
              (last_of (IsImageOfUndef have (image_term t f) (undef_term d.target) one.0) t.path f at)))))))),
        )

    of_total : (t : Term) (f : FunId) (d : FunDecl) → slice_get schema.functions f.n ≡ Some d → d.total ≡ true → Has2 (image_term t f) (undef_term d.target) → Has2 t (undef_term d.source)
    of_total t f d known total h =
        let sorts = sorts_at f d known in
        let known_t : Known t = front_known t f (image_term t f) h.0 refl in
        let known_undef : Known (undef_term d.source) = an_undef d.source sorts.0 in (
          known_t,
          known_undef,
          closed t (undef_term d.source) known_t known_undef
              (inr (inr (inr (inr (inr (inr (f.n, slice_get_within schema.functions f.n d known, (d, known, (total, (refl, h.2)))))))))),
        )

    fact_known : (s t : Term) (ls : List Literal) (same : Bool) → Contains ls (Equal s t same) → Contains (sides ls) s × Contains (sides ls) t
    fact_known s t [] same inside = absurd (let lt = inside.1 in omega (arith, lt))
    fact_known s t (Equal a b z ∷ ls) same inside = ⊎_elim here (λ k. later (fact_known s t ls same k)) (contains_cases (Equal a b z) (Equal s t same) ls inside)
      where
        left : Literal → Term
        left (Equal x y w) = x

        right : Literal → Term
        right (Equal x y w) = y

        here : Equal a b z ≡ Equal s t same → Contains (a ∷ b ∷ sides ls) s × Contains (a ∷ b ∷ sides ls) t
        here e = (
          subst (λ (u : Term). Contains (a ∷ b ∷ sides ls) u) (ap left e) (contains-here a (b ∷ sides ls)),
          subst (λ (u : Term). Contains (a ∷ b ∷ sides ls) u) (ap right e) (contains-later a b (b ∷ sides ls) (contains-here b (sides ls))),
        )

        later : Contains (sides ls) s × Contains (sides ls) t → Contains (a ∷ b ∷ sides ls) s × Contains (a ∷ b ∷ sides ls) t
        later r = (contains-later a s (b ∷ sides ls) (contains-later b s (sides ls) r.0), contains-later a t (b ∷ sides ls) (contains-later b t (sides ls) r.1))

    whole_term : (t : Term) → Contains (sides facts) t → Known t
    whole_term t inside = of_literals {p = t} t inside (refl, ([], sym (append-nil t.path)))

    complete : (s t : Term) → Linked s t → Has2 s t
    complete s t (reflexive u known) = (known, known, closed u u known known (inl refl))
    complete s t (symmetric u v h) = let r = complete u v h in (r.1, r.0, closed v u r.1 r.0 (inr (inl r.2)))
    complete s t (transitive u v w h k) = through u v w (complete u v h) (complete v w k)
      where
        through : (u v w : Term) → Has2 u v → Has2 v w → Has2 u w
        through u v w a b =
            let one = among_given (λ (p : Term × Term). (p.0 ≡ u) × (p.1 ≡ v)) have a.2 in
            (a.0, b.1, closed u w a.0 b.1 (inr (inr (inl (among_of (ByOther have u w) have one.0 one.1 (one.2.0, subst (λ (x : Term). Has have x w) (sym one.2.1) b.2))))))
    complete s t (stated u v fact) =
        let at = fact_known u v facts true fact in
        let known_u : Known u = whole_term u at.0 in
        let known_v : Known v = whole_term v at.1 in
        (known_u, known_v, closed u v known_u known_v (inr (inr (inr (inl (among_of (ByFact have u v) facts (Equal u v true) fact refl))))))
    complete s t (same_images u v f h known_u known_v) = images u v f (complete u v h) known_u known_v
    complete s t (image_of_undef u f d known h known_u) = of_undef u f d known (complete u (undef_term d.source) h) known_u
    complete s t (only_undef u f d known total h) = of_total u f d known total (complete (image_term u f) (undef_term d.target) h)

    -- a clash is seen in the pairs
    abbrev IsBroken : Literal → Type 0
    IsBroken (Equal u v true) = ⊥
    IsBroken (Equal u v false) = Has have u v

    decided_broken : (l : Literal) → Decided (IsBroken l)
    decided_broken (Equal u v true) = inr (λ h. h)
    decided_broken (Equal u v false) = decided_has have u v

    abbrev IsOpposed : Term × Term → Type 0
    IsOpposed p = ((c : ConstId) × (e : ConstId) × (p.0 ≡ constant_term c) × (p.1 ≡ constant_term e) × (c ≡ e → ⊥)) ⊎ ((c : ConstId) × (x : SortId) × (p.0 ≡ constant_term c) × (p.1 ≡ undef_term x))

    decided_opposed : (p : Term × Term) → Decided (IsOpposed p)
    decided_opposed p = decided_or (go (constant_in p.0) (constant_in p.1)) (by (constant_in p.0) (undef_in p.1))
      where
        go : Decided ((c : ConstId) × (p.0 ≡ constant_term c)) → Decided ((e : ConstId) × (p.1 ≡ constant_term e)) → Decided ((c : ConstId) × (e : ConstId) × (p.0 ≡ constant_term c) × (p.1 ≡ constant_term e) × (c ≡ e → ⊥))
        go (inr none) h = inr (λ k. none (k.0, k.2))
        go (inl a) (inr none) = inr (λ k. none (k.1, k.3))
        go (inl a) (inl b) = differ (same_constant a.0 b.0)
          where
            differ : Decided (a.0 ≡ b.0) → Decided ((c : ConstId) × (e : ConstId) × (p.0 ≡ constant_term c) × (p.1 ≡ constant_term e) × (c ≡ e → ⊥))
            differ (inr ne) = inl (a.0, b.0, a.1, b.1, ne)
            differ (inl e) = inr (λ k. k.4 (one_constant k.0 a.0 (sym k.2 ∙ a.1) ∙ e ∙ one_constant b.0 k.1 (sym b.1 ∙ k.3)))

        by : Decided ((c : ConstId) × (p.0 ≡ constant_term c)) → Decided ((x : SortId) × (p.1 ≡ undef_term x)) → Decided ((c : ConstId) × (x : SortId) × (p.0 ≡ constant_term c) × (p.1 ≡ undef_term x))
        by (inr none) h = inr (λ k. none (k.0, k.2))
        by (inl a) (inr none) = inr (λ k. none (k.1, k.3))
        by (inl a) (inl b) = inl (a.0, b.0, a.1, b.1)

    from_pair : (sound : IsSound have) (p : Term × Term) → Contains have p → IsOpposed p → FactsClash schema facts
    from_pair sound p inside (inl h) =
        two_constants h.0 h.1 h.4 (subst (λ (x : Term). Linked x (constant_term h.1)) h.2 (subst (λ (y : Term). Linked p.0 y) h.3 (sound p.0 p.1 (has_of have p inside))))
    from_pair sound p inside (inr h) =
        constant_undef h.0 h.1 (subst (λ (x : Term). Linked x (undef_term h.1)) h.2 (subst (λ (y : Term). Linked p.0 y) h.3 (sound p.0 p.1 (has_of have p inside))))

    from_fact : (sound : IsSound have) (l : Literal) → Contains facts l → IsBroken l → FactsClash schema facts
    from_fact sound (Equal u v true) inside h = absurd h
    from_fact sound (Equal u v false) inside h = stated_apart u v inside (sound u v h)

    opposed_pair : (s t : Term) → Has have s t → IsOpposed (s, t) → Among IsOpposed have
    opposed_pair s t h opposed =
        let one = among_given (λ (p : Term × Term). (p.0 ≡ s) × (p.1 ≡ t)) have h in
        among_of IsOpposed have one.0 one.1 (moved one.0 one.2.0 one.2.1 opposed)
      where
        moved : (p : Term × Term) → p.0 ≡ s → p.1 ≡ t → IsOpposed (s, t) → IsOpposed p
        moved p a b (inl h) = inl (h.0, h.1, a ∙ h.2, b ∙ h.3, h.4)
        moved p a b (inr h) = inr (h.0, h.1, a ∙ h.2, b ∙ h.3)

    seen : FactsClash schema facts → Among IsBroken facts ⊎ Among IsOpposed have
    seen (stated_apart u v fact h) = let r = complete u v h in inl (among_of IsBroken facts (Equal u v false) fact r.2)
    seen (two_constants c e ne h) = let r = complete (constant_term c) (constant_term e) h in inr (opposed_pair (constant_term c) (constant_term e) r.2 (inl (c, e, refl, refl, ne)))
    seen (constant_undef c x h) = let r = complete (constant_term c) (undef_term x) h in inr (opposed_pair (constant_term c) (undef_term x) r.2 (inr (c, x, refl, refl)))

    decided_by : IsSound have → Decided (FactsClash schema facts)
    decided_by sound =
        by_both (⊎_elim (λ h. let one = among_given IsBroken facts h in from_fact sound one.0 one.1 one.2) (λ h. let one = among_given IsOpposed have h in from_pair sound one.0 one.1 one.2)) seen
        (decided_or (decided_among IsBroken decided_broken facts) (decided_among IsOpposed decided_opposed have))

  pub decided_clash : IsSchema schema → Decided (FactsClash schema facts)
  decided_clash is = decided_by is found.0 found.2 found.1
