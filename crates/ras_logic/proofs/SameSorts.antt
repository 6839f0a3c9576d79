-- Terms that are together have one sort.
use Rattle.std.proofs.Common.{◌≡◌, ◌<◌, true, List, [], ◌∷◌, ◌++◌, get_or, refl, sym, ◌∙◌, ap, subst}
use Rattle.std.specs.Prelude.{slice_get, Option, Some, None, option_and_then, All, nat_lt}
use Rattle.ras_logic.specs.declared.term.Base.{Base}
use Rattle.ras_logic.specs.declared.term.Base.TheVariants.{Var, Cell, Constant, Undef, Param}
use Rattle.std.proofs.lemmas.Option.{slice_get-get_or, cond_some}
use Rattle.std.proofs.lemmas.Bool.{ltb-true}
use Rattle.std.proofs.lemmas.List.Elements.{All-contains, All-head, All-tail, All-nil, All-cons}
use Rattle.ras_logic.specs.declared.ids.SortId.{SortId}
use Rattle.ras_logic.specs.declared.ids.FunId.{FunId}
use Rattle.ras_logic.specs.declared.ids.RelId.{RelId}
use Rattle.ras_logic.specs.declared.function.FunDecl.{FunDecl}
use Rattle.ras_logic.specs.declared.term.Term.{Term}
use Rattle.ras_logic.specs.declared.literal.Literal.{Literal}
use Rattle.ras_logic.specs.declared.literal.Literal.TheVariants.{Equal}
use Rattle.ras_logic.specs.Shapes.{ShapeParts}
use Rattle.ras_logic.specs.Schemas.{IsSchema, IsSort, HasSorts}
use Rattle.ras_logic.specs.Formulas.{LiteralFits}
use Rattle.ras_logic.specs.Terms.{sort_of_base, sort_after, sort_along, sort_of, undef_term, image_term}
use Rattle.ras_logic.proofs.Elements.{from_known}
use Rattle.ras_logic.proofs.TermSorts.{and_then_through, and_then_from, sort_after-step, sort_after-known, sort_along-append, sort_of-undef, undef-sort, sort_of-constant}
use Rattle.ras_logic.specs.Clashes.{sides, IsPrefixOf, IsTerm, of_literals, a_constant, an_undef, Together, reflexive, symmetric, transitive, stated, same_images, image_of_undef, only_undef}

-- the sort of a term exists
module _ (shape : ShapeParts) (rows : List RelId) (params : List SortId) (ok : IsSchema shape.schema)
    (vars_sorted : All (IsSort shape.schema.sorts) shape.vars) (columns_sorted : All (All (IsSort shape.schema.sorts)) shape.relations)
    (params_sorted : All (IsSort shape.schema.sorts) params) where
  base-within : (b : Base) (u : SortId) → sort_of_base shape rows params b ≡ Some u → u.n < shape.schema.sorts
  base-within (Var x) u h = from_known (IsSort shape.schema.sorts) shape.vars vars_sorted x.n u h
  base-within (Cell row column) u h =
      let t = and_then_through (λ (r : RelId). option_and_then (λ (columns : List SortId). slice_get columns column) (slice_get shape.relations r.n)) (slice_get rows row) u h in
      let w = and_then_through (λ (columns : List SortId). slice_get columns column) (slice_get shape.relations t.mid.n) u t.second in
      from_known (IsSort shape.schema.sorts) w.mid (from_known (All (IsSort shape.schema.sorts)) shape.relations columns_sorted t.mid.n w.mid w.first) column u w.second
  base-within (Constant c) u h = from_known (IsSort shape.schema.sorts) shape.schema.constants ok.constants c.n u h
  base-within (Undef s) u h =
      let b = cond_some (nat_lt s.n shape.schema.sorts) s u h in
      subst (λ (q : SortId). q.n < shape.schema.sorts) b.1 (ltb-true s.n shape.schema.sorts b.0)
  base-within (Param p) u h = from_known (IsSort shape.schema.sorts) params params_sorted p u h

  along-within : (path : List FunId) (s u : SortId) → s.n < shape.schema.sorts → sort_along shape.schema path s ≡ Some u → u.n < shape.schema.sorts
  along-within [] s u lt h = let same : s ≡ u = cc in subst (λ (q : SortId). q.n < shape.schema.sorts) same lt
  along-within (f ∷ path) s u lt h =
      let t = and_then_through (sort_along shape.schema path) (sort_after shape.schema f s) u h in
      let q = sort_after-step shape.schema f s t.mid t.first in
      let sorts = from_known (HasSorts shape.schema.sorts) shape.schema.functions ok.functions f.n q.decl q.known in
      along-within path t.mid u (subst (λ (r : SortId). r.n < shape.schema.sorts) q.target_is sorts.1) t.second

  pub sort-within : (t : Term) (u : SortId) → sort_of shape rows params t ≡ Some u → u.n < shape.schema.sorts
  sort-within t u h =
      let w = and_then_through (sort_along shape.schema t.path) (sort_of_base shape rows params t.base) u h in
      along-within t.path w.mid u (base-within t.base w.mid w.first) w.second

pub record HasSort (shape : ShapeParts) (rows : List RelId) (params : List SortId) (t : Term) : Type 0 where
  pub sort : SortId
  pub is_sort : sort_of shape rows params t ≡ Some sort

sides-sorted : (shape : ShapeParts) (rows : List RelId) (params : List SortId) (facts : List Literal)
    → All (LiteralFits shape rows params) facts → All (HasSort shape rows params) (sides facts)
sides-sorted shape rows params [] fit = All-nil (HasSort shape rows params)
sides-sorted shape rows params (Equal left right same ∷ facts) fit =
    let here = All-head (LiteralFits shape rows params) (Equal left right same) facts fit in
    All-cons (HasSort shape rows params) left (right ∷ sides facts) (record { sort = here.0; is_sort = here.1 })
    (All-cons (HasSort shape rows params) right (sides facts) (record { sort = here.0; is_sort = here.2 })
    (sides-sorted shape rows params facts (All-tail (LiteralFits shape rows params) (Equal left right same) facts fit)))

-- the sort of the image of a term
pub sort_of-image : (shape : ShapeParts) (rows : List RelId) (params : List SortId) (t : Term) (f : FunId)
    → sort_of shape rows params (image_term t f) ≡ option_and_then (sort_after shape.schema f) (sort_of shape rows params t)
sort_of-image shape rows params t f = go (sort_of_base shape rows params t.base)
  where
    go : (o : Option SortId) → option_and_then (sort_along shape.schema (t.path ++ f ∷ [])) o ≡ option_and_then (sort_after shape.schema f) (option_and_then (sort_along shape.schema t.path) o)
    go None = refl
    go (Some s) = sort_along-append shape.schema t.path (f ∷ []) s ∙ along_one (sort_along shape.schema t.path s)
      where
        along_one : (o : Option SortId) → option_and_then (sort_along shape.schema (f ∷ [])) o ≡ option_and_then (sort_after shape.schema f) o
        along_one None = refl
        along_one (Some u) = last_step (sort_after shape.schema f u)
          where
            last_step : (o : Option SortId) → option_and_then (sort_along shape.schema []) o ≡ o
            last_step None = refl
            last_step (Some w) = refl

-- two terms have one sort
pub record SameSort (shape : ShapeParts) (rows : List RelId) (params : List SortId) (s t : Term) : Type 0 where
  pub sort : SortId
  pub left : sort_of shape rows params s ≡ Some sort
  pub right : sort_of shape rows params t ≡ Some sort

-- the sort of what has an image
pub image-source : (shape : ShapeParts) (rows : List RelId) (params : List SortId) (t : Term) (f : FunId) (decl : FunDecl) (u : SortId)
    → slice_get shape.schema.functions f.n ≡ Some decl → sort_of shape rows params (image_term t f) ≡ Some u
    → (sort_of shape rows params t ≡ Some decl.source) × (u ≡ decl.target)
image-source shape rows params t f decl u known h =
    let w = and_then_through (sort_after shape.schema f) (sort_of shape rows params t) u
    (sym (sort_of-image shape rows params t f) ∙ h) in
    let q = sort_after-step shape.schema f w.mid u w.second in
    let same_decl : q.decl ≡ decl = cc in
    let source : decl.source ≡ w.mid = cc in
    (rw source w.first, cc)

module _ (shape : ShapeParts) (rows : List RelId) (params : List SortId) (literals : List Literal) (fit : All (LiteralFits shape rows params) literals) where
  along_as : (path other : List FunId) → path ≡ other → (s u : SortId) → sort_along shape.schema path s ≡ Some u → sort_along shape.schema other s ≡ Some u
  along_as path other e s u h = rw (← e) h

  prefix-sorted : (p t : Term) → IsPrefixOf p t → HasSort shape rows params t → HasSort shape rows params p
  prefix-sorted p t pre h =
      let b = and_then_through (sort_along shape.schema t.path) (sort_of_base shape rows params t.base) h.sort h.is_sort in
      let along : sort_along shape.schema (p.path ++ pre.1.0) b.mid ≡ Some h.sort = along_as t.path (p.path ++ pre.1.0) pre.1.1 b.mid h.sort b.second in
      let q = and_then_through (sort_along shape.schema pre.1.0) (sort_along shape.schema p.path b.mid) h.sort (sym (sort_along-append shape.schema p.path pre.1.0 b.mid) ∙ along) in
      let base : sort_of_base shape rows params p.base ≡ Some b.mid = rw pre.0 b.first in
      record { sort = q.mid; is_sort = and_then_from (sort_along shape.schema p.path) (sort_of_base shape rows params p.base) b.mid q.mid base q.first }

  pub term-sorted : {t : Term} → IsTerm shape.schema literals t → HasSort shape rows params t
  term-sorted (of_literals {p = p} t inside pre) = prefix-sorted p t pre (All-contains (HasSort shape rows params) (sides literals) t (sides-sorted shape rows params literals fit) inside)
  term-sorted (a_constant c lt) =
      let u : SortId = get_or shape.schema.constants c.n (record { n = 0 }) in
      record { sort = u; is_sort = sort_of-constant shape rows params c u (slice_get-get_or shape.schema.constants c.n (record { n = 0 }) lt) }
  term-sorted (an_undef s lt) = record { sort = s; is_sort = sort_of-undef shape rows params s lt }

module _ (shape : ShapeParts) (rows : List RelId) (params : List SortId) (ok : IsSchema shape.schema)
    (literals : List Literal) (fit : All (LiteralFits shape rows params) literals)
    (IsFact : Literal → Type 0) (facts_fit : (l : Literal) → IsFact l → LiteralFits shape rows params l) where
  sorted_transitive : (r s t : Term) → SameSort shape rows params r s → SameSort shape rows params s t → SameSort shape rows params r t
  sorted_transitive r s t a b = let one : a.sort ≡ b.sort = cc in record { sort = a.sort; left = a.left; right = rw one b.right }

  sorted_images : (s t : Term) (f : FunId) → SameSort shape rows params s t → HasSort shape rows params (image_term s f) → SameSort shape rows params (image_term s f) (image_term t f)
  sorted_images s t f a h =
      let e : sort_of shape rows params (image_term s f) ≡ sort_of shape rows params (image_term t f) =
      sort_of-image shape rows params s f ∙ ap (option_and_then (sort_after shape.schema f)) (a.left ∙ sym a.right) ∙ sym (sort_of-image shape rows params t f) in
      record { sort = h.sort; left = h.is_sort; right = sym e ∙ h.is_sort }

  sorted_image_of_undef : (t : Term) (f : FunId) (decl : FunDecl) → slice_get shape.schema.functions f.n ≡ Some decl
      → SameSort shape rows params t (undef_term decl.source) → SameSort shape rows params (image_term t f) (undef_term decl.target)
  sorted_image_of_undef t f decl known a =
      let e : decl.source ≡ a.sort = undef-sort shape rows params decl.source a.sort a.right in
      let step : sort_after shape.schema f a.sort ≡ Some decl.target = subst (λ (u : SortId). sort_after shape.schema f u ≡ Some decl.target) e (sort_after-known shape.schema f decl known) in
      record {
        sort = decl.target;
        left = sort_of-image shape rows params t f ∙ and_then_from (sort_after shape.schema f) (sort_of shape rows params t) a.sort decl.target a.left step;
        right = sort_of-undef shape rows params decl.target ((from_known (HasSorts shape.schema.sorts) shape.schema.functions ok.functions f.n decl known).1);
      }

  sorted_only_undef : (t : Term) (f : FunId) (decl : FunDecl) → slice_get shape.schema.functions f.n ≡ Some decl
      → SameSort shape rows params (image_term t f) (undef_term decl.target) → SameSort shape rows params t (undef_term decl.source)
  sorted_only_undef t f decl known a = record {
    sort = decl.source;
    left = (image-source shape rows params t f decl a.sort known a.left).0;
    right = sort_of-undef shape rows params decl.source ((from_known (HasSorts shape.schema.sorts) shape.schema.functions ok.functions f.n decl known).0);
  }

  sorted_reflexive : (t : Term) → HasSort shape rows params t → SameSort shape rows params t t
  sorted_reflexive t h = record { sort = h.sort; left = h.is_sort; right = h.is_sort }

  sorted_stated : (s t : Term) → IsFact (Equal s t true) → SameSort shape rows params s t
  sorted_stated s t inside = let f = facts_fit (Equal s t true) inside in record { sort = f.0; left = f.1; right = f.2 }

  pub together-sorted : {s t : Term} → Together shape.schema literals IsFact s t → SameSort shape rows params s t
  together-sorted (reflexive t known) = sorted_reflexive t (term-sorted shape rows params literals fit known)
  together-sorted (symmetric s t r) = let a = together-sorted r in record { sort = a.sort; left = a.right; right = a.left }
  together-sorted (transitive r s t p q) = sorted_transitive r s t (together-sorted p) (together-sorted q)
  together-sorted (stated s t inside) = sorted_stated s t inside
  together-sorted (same_images s t f r one other) = sorted_images s t f (together-sorted r) (term-sorted shape rows params literals fit one)
  together-sorted (image_of_undef t f decl known r one) = sorted_image_of_undef t f decl known (together-sorted r)
  together-sorted (only_undef t f decl known total r) = sorted_only_undef t f decl known (together-sorted r)
