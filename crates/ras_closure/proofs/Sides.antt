-- The sides of a problem's literals, and a whole table.
use Rattle.std.proofs.Common.{◌≡◌, ℕ, zero, suc, ◌+◌, ◌-◌, ◌<◌, ◌≤◌, Bool, true, false, List, [], ◌∷◌, ◌++◌, length, get_or, take, refl, sym, ◌∙◌, ap, subst, arith, ◌⊎◌, inl, inr, ⊎_elim, length-append, cond}
use Rattle.std.specs.Prelude.{slice_get, Some, Contains, All, nat_lt}
use Rattle.std.proofs.lemmas.Option.{slice_get_within}
use Rattle.std.proofs.lemmas.Bool.{lt-ltb, ltb-true}
use Rattle.std.proofs.Math.Seq.{take-append_seam}
use Rattle.ras_logic.specs.declared.ids.FunId.{FunId}
use Rattle.ras_logic.specs.declared.ids.SortId.{SortId}
use Rattle.ras_logic.specs.declared.ids.ConstId.{ConstId}
use Rattle.ras_logic.specs.declared.ids.RelId.{RelId}
use Rattle.ras_logic.specs.declared.term.Base.TheVariants.{Undef, Constant}
use Rattle.ras_logic.specs.declared.term.Term.{Term}
use Rattle.ras_logic.specs.declared.literal.Literal.{Literal}
use Rattle.ras_logic.specs.declared.literal.Literal.TheVariants.{Equal}
use Rattle.ras_logic.specs.Schemas.{SchemaParts}
use Rattle.ras_logic.specs.Shapes.{ShapeParts}
use Rattle.ras_logic.specs.Formulas.{LiteralFits}
use Rattle.ras_logic.specs.Terms.{sort_of, sort_of_base, sort_along, sort_after, constant_term, undef_term}
use Rattle.ras_logic.proofs.TermSorts.{and_then_through, sort_after-step}
use Rattle.ras_closure.specs.declared.link.Link.{Link}
use Rattle.ras_logic.specs.Clashes.{sides, IsPrefixOf, IsTerm, of_literals, a_constant, an_undef}
use Rattle.ras_closure.specs.Numbered.{IsAt, AreTerms}
use Rattle.ras_closure.specs.Building.{fixed_term, IsPart, Grows, prefix_at, HasPrefixes, HasSides, HasFunctions, SidesKnown, AreFixed, HaveSides}
use Rattle.ras_logic.specs.Literals.{left_of, right_of}
use Rattle.ras_closure.proofs.Prefixes.{same_term}
use Rattle.ras_closure.proofs.Pushing.{prefixes-grow, grows-push, pushed-at}
use Rattle.ras_logic.proofs.Elements.{from_known}
use Rattle.ras_closure.proofs.Cases.{some_same}

contains-second : {X : Type 0} (a b x : X) (xs : List X) → Contains xs x → Contains (a ∷ b ∷ xs) x
contains-second a b x xs h = (suc (suc h.0), omega (arith, h.1), h.2)

pub sides-known : (literals : List Literal) (k : ℕ) (a b : Term) (s : Bool) → slice_get literals k ≡ Some (Equal a b s) → Contains (sides literals) a × Contains (sides literals) b
sides-known [] k a b s h = absurd (cc)
sides-known (Equal c d r ∷ ls) zero a b s h =
    let one : c ≡ a = cc in
    let two : d ≡ b = cc in
    (subst (λ (t : Term). Contains (c ∷ d ∷ sides ls) t) one (0, omega arith, refl), subst (λ (t : Term). Contains (c ∷ d ∷ sides ls) t) two (1, omega arith, refl))
sides-known (Equal c d r ∷ ls) (suc k) a b s h = let q = sides-known ls k a b s h in (contains-second c d a (sides ls) q.0, contains-second c d b (sides ls) q.1)

-- a side is one of the two of some literal
pub record IsSideOf (literals : List Literal) (t : Term) : Type 0 where
  pub k : ℕ
  pub left : Term
  pub right : Term
  pub same : Bool
  pub at : slice_get literals k ≡ Some (Equal left right same)
  pub which : (t ≡ left) ⊎ (t ≡ right)

side-more : (l : Literal) (ls : List Literal) (t : Term) → IsSideOf ls t → IsSideOf (l ∷ ls) t
side-more l ls t h = record { k = suc h.k; left = h.left; right = h.right; same = h.same; at = h.at; which = h.which }

pub side-of : (literals : List Literal) (t : Term) (k : ℕ) → k < length (sides literals) → get_or (sides literals) k t ≡ t → IsSideOf literals t
side-of [] t k lt h = absurd (omega arith)
side-of (Equal c d r ∷ ls) t zero lt h = record { k = 0; left = c; right = d; same = r; at = refl; which = inl (sym h) }
side-of (Equal c d r ∷ ls) t (suc zero) lt h = record { k = 0; left = c; right = d; same = r; at = refl; which = inr (sym h) }
side-of (Equal c d r ∷ ls) t (suc (suc k)) lt h = side-more (Equal c d r) ls t (side-of ls t k (omega arith) h)

-- the functions of a path that leads somewhere exist
along-functions : (schema : SchemaParts) (path : List FunId) (s u : SortId) → sort_along schema path s ≡ Some u → (k : ℕ) → k < length path → (get_or path k (record { n = 0 })).n < length schema.functions
along-functions schema [] s u h k lt = absurd (omega (arith, lt))
along-functions schema (f ∷ path) s u h zero lt =
    let w = and_then_through (sort_along schema path) (sort_after schema f s) u h in
    let q = sort_after-step schema f s w.mid w.first in slice_get_within schema.functions f.n q.decl q.known
along-functions schema (f ∷ path) s u h (suc k) lt =
    let w = and_then_through (sort_along schema path) (sort_after schema f s) u h in along-functions schema path w.mid u w.second k (omega arith)

module _ (shape : ShapeParts) (rows : List RelId) (params : List SortId) (literals : List Literal) (fit : All (LiteralFits shape rows params) literals) where
  pub term-functions : (t : Term) (s : SortId) → sort_of shape rows params t ≡ Some s → HasFunctions shape.schema t
  term-functions t s h k lt =
      let w = and_then_through (sort_along shape.schema t.path) (sort_of_base shape rows params t.base) s h in
      along-functions shape.schema t.path w.mid s w.second k lt

  append-nil : (xs : List FunId) → xs ≡ xs ++ []
  append-nil [] = refl
  append-nil (x ∷ xs) = ap (λ (ys : List FunId). x ∷ ys) (append-nil xs)

  pub literal-known : (k : ℕ) (l : Literal) → slice_get literals k ≡ Some l → SidesKnown shape.schema literals l
  literal-known k (Equal a b s) h =
      let c = sides-known literals k a b s h in
      let f = from_known (LiteralFits shape rows params) literals fit k (Equal a b s) h in
      (of_literals {p = a} a c.0 (refl, ([], append-nil a.path)), term-functions a f.0 f.1, of_literals {p = b} b c.1 (refl, ([], append-nil b.path)), term-functions b f.0 f.2)

module _ (schema : SchemaParts) where
  fixed-undef : (i : ℕ) → i < schema.sorts → fixed_term schema.sorts i ≡ undef_term (record { n = i })
  fixed-undef i lt = rw (lt-ltb i schema.sorts lt) refl

  fixed-constant : (c : ℕ) → fixed_term schema.sorts (schema.sorts + c) ≡ constant_term (record { n = c })
  fixed-constant c =
      let less : nat_lt (schema.sorts + c) schema.sorts ≡ false = not_less (nat_lt (schema.sorts + c) schema.sorts) refl in
      let number : (schema.sorts + c) - schema.sorts ≡ c = omega arith in
      rw (less, number) refl
    where
      not_less : (b : Bool) → nat_lt (schema.sorts + c) schema.sorts ≡ b → nat_lt (schema.sorts + c) schema.sorts ≡ false
      not_less true e = absurd (omega (arith, ltb-true (schema.sorts + c) schema.sorts e))
      not_less false e = e

  pub fixed-different : (i j : ℕ) → fixed_term schema.sorts i ≡ fixed_term schema.sorts j → i ≡ j
  fixed-different i j e = split (below_or i schema.sorts) (below_or j schema.sorts)
    where
      below_or : (a b : ℕ) → (a < b) ⊎ ((k : ℕ) × (a ≡ b + k))
      below_or a b = ⊎_elim inl (λ (h : b ≤ a). inr (a - b, omega (arith, h))) (less_or a b)
        where
          less_or : (a b : ℕ) → (a < b) ⊎ (b ≤ a)
          less_or a b = grind arith

      undef_number : (m n : ℕ) → undef_term (record { n = m }) ≡ undef_term (record { n = n }) → m ≡ n
      undef_number m n h =
          let b : Undef (record { n = m }) ≡ Undef (record { n = n }) = ap (λ (t : Term). t.base) h in
          let r : ◌≡◌ {A = SortId} (record { n = m }) (record { n = n }) = cc in ap (λ (q : SortId). q.n) r

      constant_number : (m n : ℕ) → constant_term (record { n = m }) ≡ constant_term (record { n = n }) → m ≡ n
      constant_number m n h =
          let b : Constant (record { n = m }) ≡ Constant (record { n = n }) = ap (λ (t : Term). t.base) h in
          let r : ◌≡◌ {A = ConstId} (record { n = m }) (record { n = n }) = cc in ap (λ (q : ConstId). q.n) r

      apart : (m n : ℕ) → undef_term (record { n = m }) ≡ constant_term (record { n = n }) → ⊥
      apart m n h =
          let b : Undef (record { n = m }) ≡ Constant (record { n = n }) = ap (λ (t : Term). t.base) h in cc

      split : (i < schema.sorts) ⊎ ((k : ℕ) × (i ≡ schema.sorts + k)) → (j < schema.sorts) ⊎ ((k : ℕ) × (j ≡ schema.sorts + k)) → i ≡ j
      split (inl a) (inl b) = undef_number i j (sym (fixed-undef i a) ∙ e ∙ fixed-undef j b)
      split (inl a) (inr b) = absurd (apart i b.0 (sym (fixed-undef i a) ∙ e ∙ ap (fixed_term schema.sorts) b.1 ∙ fixed-constant b.0))
      split (inr a) (inl b) = absurd (apart j a.0 (sym (fixed-undef j b) ∙ sym e ∙ ap (fixed_term schema.sorts) a.1 ∙ fixed-constant a.0))
      split (inr a) (inr b) =
          a.1 ∙ ap (λ (k : ℕ). schema.sorts + k) (constant_number a.0 b.0 (sym (fixed-constant a.0) ∙ ap (fixed_term schema.sorts) (sym a.1) ∙ e ∙ ap (fixed_term schema.sorts) b.1 ∙ fixed-constant b.0)) ∙ sym b.1

  pub whole-table : (literals : List Literal) (terms : List Term) (links : List Link) → IsPart schema literals terms links → AreFixed schema.sorts terms (schema.sorts + length schema.constants)
      → HaveSides terms literals (length literals) → AreTerms schema literals terms
  whole-table literals terms links part fixed have = record {
    known = part.known;
    complete = complete;
    different = part.different;
    undefs = undefs;
    constants = constants;
  }
    where
      undefs : (s : SortId) → s.n < schema.sorts → IsAt terms s.n (undef_term s)
      undefs s lt = subst (λ (t : Term). IsAt terms s.n t) (fixed-undef s.n lt) (fixed s.n (omega arith))

      constants : (c : ConstId) → c.n < length schema.constants → IsAt terms (schema.sorts + c.n) (constant_term c)
      constants c lt = subst (λ (t : Term). IsAt terms (schema.sorts + c.n) t) (fixed-constant c.n) (fixed (schema.sorts + c.n) (omega arith))

      of_side : (p side : Term) → IsPrefixOf p side → HasPrefixes terms side (length side.path) → (i : ℕ) × IsAt terms i p
      of_side p side pre has =
          let le : length p.path ≤ length side.path = rw pre.1.1 (omega (arith, length-append p.path pre.1.0)) in
          let q = has (length p.path) le in
          let path : take (length p.path) side.path ≡ p.path = rw pre.1.1 (take-append_seam p.path pre.1.0) in
          (q.0, subst (λ (t : Term). IsAt terms q.0 t) (same_term (prefix_at side (length p.path)) p (sym pre.0) path) q.1)

      complete : (t : Term) → IsTerm schema literals t → (i : ℕ) × IsAt terms i t
      complete t (of_literals side inside pre) =
          let w = side-of literals side inside.0 inside.1 inside.2 in
          let h = have w.k (Equal w.left w.right w.same) (slice_get_within literals w.k (Equal w.left w.right w.same) w.at) w.at in
          of_side t side pre (⊎_elim (λ (e : side ≡ w.left). subst (λ (u : Term). HasPrefixes terms u (length u.path)) (sym e) h.0)
          (λ (e : side ≡ w.right). subst (λ (u : Term). HasPrefixes terms u (length u.path)) (sym e) h.1) w.which)
      complete t (a_constant c lt) = (schema.sorts + c.n, constants c lt)
      complete t (an_undef s lt) = (s.n, undefs s lt)

grown_sides : (old new : List Term) (l : Literal) → Grows old new → HasSides old l → HasSides new l
grown_sides old new (Equal a b s) grows h = (prefixes-grow old new a (length a.path) grows h.0, prefixes-grow old new b (length b.path) grows h.1)

one_more : (k n : ℕ) → k < n + 1 → (k < n) ⊎ (k ≡ n)
one_more k n lt = grind arith

-- the sides of one literal more
pub sides-more : (old new : List Term) (literals : List Literal) (n : ℕ) (l : Literal) → Grows old new → HaveSides old literals n → slice_get literals n ≡ Some l → HasSides new l → HaveSides new literals (n + 1)
sides-more old new literals n l grows have known here k q lt at =
    ⊎_elim (λ (h : k < n). grown_sides old new q grows (have k q h at))
    (λ (e : k ≡ n). subst (λ (x : Literal). HasSides new x) (same (subst (λ (m : ℕ). slice_get literals m ≡ Some q) e at)) here) (one_more k n lt)
  where
    same : slice_get literals n ≡ Some q → l ≡ q
    same h = cc

-- one undef or constant more
pub fixed-more : (schema : SchemaParts) (terms : List Term) (n : ℕ) → length terms ≡ n → AreFixed schema.sorts terms n → AreFixed schema.sorts (terms ++ fixed_term schema.sorts n ∷ []) (n + 1)
fixed-more schema terms n long fixed i lt =
    ⊎_elim (λ (h : i < n). grows-push terms (fixed_term schema.sorts n) (fixed_term schema.sorts i) i (fixed i h))
    (λ (e : i ≡ n). subst (λ (m : ℕ). IsAt (terms ++ fixed_term schema.sorts n ∷ []) m (fixed_term schema.sorts m)) (sym e)
    (subst (λ (m : ℕ). IsAt (terms ++ fixed_term schema.sorts n ∷ []) m (fixed_term schema.sorts n)) long (pushed-at terms (fixed_term schema.sorts n)))) (one_more i n lt)

pub fixed-known : (schema : SchemaParts) (literals : List Literal) (i : ℕ) → i < schema.sorts + length schema.constants → IsTerm schema literals (fixed_term schema.sorts i)
fixed-known schema literals i lt = go (less_or i schema.sorts)
  where
    less_or : (a b : ℕ) → (a < b) ⊎ (b ≤ a)
    less_or a b = grind arith

    go : (i < schema.sorts) ⊎ (schema.sorts ≤ i) → IsTerm schema literals (fixed_term schema.sorts i)
    go (inl h) = rw (fixed-undef schema i h) (an_undef (record { n = i }) h)
    go (inr h) =
        let e : schema.sorts + (i - schema.sorts) ≡ i = omega (arith, h) in
        subst (λ (m : ℕ). IsTerm schema literals (fixed_term schema.sorts m)) e
        (subst (λ (t : Term). IsTerm schema literals t) (sym (fixed-constant schema (i - schema.sorts))) (a_constant (record { n = i - schema.sorts }) (omega (arith, lt, h))))

pub fixed-fresh : (schema : SchemaParts) (terms : List Term) (n : ℕ) → length terms ≡ n → AreFixed schema.sorts terms n → (i : ℕ) → IsAt terms i (fixed_term schema.sorts n) → ⊥
fixed-fresh schema terms n long fixed i at =
    let lt : i < n = rw (← long) (slice_get_within terms i (fixed_term schema.sorts n) at) in
    let same : fixed_term schema.sorts i ≡ fixed_term schema.sorts n = some_same (sym (fixed i lt) ∙ at) in
    omega (arith, lt, fixed-different schema i n same)

pub sides-of : (mid new : List Term) (l : Literal) → Grows mid new → HasPrefixes mid (left_of l) (length (left_of l).path) → HasPrefixes new (right_of l) (length (right_of l).path) → HasSides new l
sides-of mid new (Equal a b s) grows left right = (prefixes-grow mid new a (length a.path) grows left, right)

pub fixed-path : (sorts i : ℕ) → (fixed_term sorts i).path ≡ []
fixed-path sorts i = go (nat_lt i sorts)
  where
    go : (b : Bool) → (cond b (undef_term (record { n = i })) (constant_term (record { n = i - sorts }))).path ≡ []
    go true = refl
    go false = refl
