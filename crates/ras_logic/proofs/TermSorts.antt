-- A term that has a sort stands for an element of that sort.
use Rattle.std.proofs.Common.{◌≡◌, ℕ, zero, suc, ◌+◌, ◌<◌, Bool, true, false, List, [], ◌∷◌, ◌++◌, length, get_or, nat_eq, refl, sym, ap, subst, arith, cond, drop, drop-cons, add-one}
use Rattle.std.specs.Prelude.{slice_get, Option, Some, None, option_and_then, nat_lt}
use Rattle.std.proofs.lemmas.Option.{get_or_from_slice_get}
use Rattle.std.proofs.lemmas.Bool.{eqb-true, eq-eqb, lt-ltb}
use Rattle.ras_logic.specs.declared.ids.SortId.{SortId}
use Rattle.ras_logic.specs.declared.ids.FunId.{FunId}
use Rattle.ras_logic.specs.declared.ids.ConstId.{ConstId}
use Rattle.ras_logic.specs.declared.ids.RelId.{RelId}
use Rattle.ras_logic.specs.declared.function.FunDecl.{FunDecl}
use Rattle.ras_logic.specs.declared.raw_db.RawDb.{RawDb}
use Rattle.ras_logic.specs.declared.values.Values.{Values}
use Rattle.ras_logic.specs.declared.term.Base.{Base}
use Rattle.ras_logic.specs.declared.term.Base.TheVariants.{Var, Cell, Constant, Undef, Param}
use Rattle.ras_logic.specs.declared.term.Term.{Term}
use Rattle.ras_logic.specs.Schemas.{SchemaParts}
use Rattle.ras_logic.specs.Shapes.{ShapeParts}
use Rattle.ras_logic.specs.Databases.{IsElement, IsDatabase, image}
use Rattle.ras_logic.specs.Terms.{sort_of_base, sort_after, sort_along, sort_of}
use Rattle.ras_logic.specs.Truth.{AreValues, value_of_base, image_along, value}

-- what a chain of two partial steps came through
pub record Through {A B : Type 0} (f : A → Option B) (o : Option A) (y : B) : Type 0 where
  pub mid : A
  pub first : o ≡ Some mid
  pub second : f mid ≡ Some y

pub and_then_through : {A B : Type 0} (f : A → Option B) (o : Option A) (y : B) → option_and_then f o ≡ Some y → Through f o y
and_then_through f None y h = absurd (cc)
and_then_through f (Some x) y h = record { mid = x; first = refl; second = h }

-- a test that answered
if_some : {A : Type 0} (b : Bool) (x y : A) → cond b (Some x) None ≡ Some y → (b ≡ true) × (x ≡ y)
if_some true x y h = (refl, cc)
if_some false x y h = absurd (cc)

-- the function of a step of sorts
pub record SortStep (schema : SchemaParts) (f : FunId) (s target : SortId) : Type 0 where
  pub decl : FunDecl
  pub known : slice_get schema.functions f.n ≡ Some decl
  pub source : decl.source ≡ s
  pub target_is : decl.target ≡ target

pub sort_after-step : (schema : SchemaParts) (f : FunId) (s target : SortId) → sort_after schema f s ≡ Some target → SortStep schema f s target
sort_after-step schema f s target h =
    let t = and_then_through (λ (d : FunDecl). cond (nat_eq d.source.n s.n) (Some d.target) None) (slice_get schema.functions f.n) target h in
    let b = if_some (nat_eq t.mid.source.n s.n) t.mid.target target t.second in
    record { decl = t.mid; known = t.first; source = ap (λ (m : ℕ). record { n = m }) (eqb-true t.mid.source.n s.n b.0); target_is = b.1 }

pub and_then-and_then : {A B C : Type 0} (g : A → Option C) (f : A → Option B) (h : B → Option C) → ((x : A) → g x ≡ option_and_then h (f x))
    → (o : Option A) → option_and_then g o ≡ option_and_then h (option_and_then f o)
and_then-and_then g f h e None = refl
and_then-and_then g f h e (Some x) = e x

pub sort_along-append : (schema : SchemaParts) (p q : List FunId) (s : SortId)
    → sort_along schema (p ++ q) s ≡ option_and_then (sort_along schema q) (sort_along schema p s)
sort_along-append schema [] q s = refl
sort_along-append schema (f ∷ p) q s =
    and_then-and_then (sort_along schema (p ++ q)) (sort_along schema p) (sort_along schema q) (sort_along-append schema p q) (sort_after schema f s)

-- one step along the rest of a path
pub sort_along_rest : (schema : SchemaParts) (path : List FunId) (i : ℕ) (d : FunId) (s : SortId) → i < length path
    → sort_along schema (drop i path) s ≡ option_and_then (sort_along schema (drop (i + 1) path)) (sort_after schema (get_or path i d) s)
sort_along_rest schema path i d s lt = rw (drop-cons path i d lt, add-one)

pub image_along-append : (d : RawDb) (p q : List FunId) (x : ℕ) → image_along d (p ++ q) x ≡ image_along d q (image_along d p x)
image_along-append d [] q x = refl
image_along-append d (f ∷ p) q x = image_along-append d p q (image d f.n x)

module _ (shape : ShapeParts) (d : RawDb) (db : IsDatabase shape.schema d) where
  pub image-element : (f : FunId) (decl : FunDecl) (x : ℕ) → slice_get shape.schema.functions f.n ≡ Some decl
      → IsElement d decl.source x → IsElement d decl.target (image d f.n x)
  image-element f decl zero known e = omega arith
  image-element f decl (suc k) known e = let t = db.each_table f.n decl known in t.in_target k (rw t.as_long (omega arith))

  -- only undef has the image undef under a total function
  pub image-total : (f : FunId) (decl : FunDecl) (x : ℕ) → slice_get shape.schema.functions f.n ≡ Some decl → decl.total ≡ true
      → IsElement d decl.source x → image d f.n x ≡ 0 → x ≡ 0
  image-total f decl zero known total e z = refl
  image-total f decl (suc k) known total e z =
      let t = db.each_table f.n decl known in let p = t.total total k (rw t.as_long (omega arith)) in absurd (omega (arith, p, z))

  element_along : (path : List FunId) (s target : SortId) (x : ℕ) → sort_along shape.schema path s ≡ Some target → IsElement d s x
      → IsElement d target (image_along d path x)
  element_along [] s target x h e = let same : s ≡ target = cc in subst (λ (q : SortId). IsElement d q x) same e
  element_along (f ∷ path) s target x h e =
      let t = and_then_through (sort_along shape.schema path) (sort_after shape.schema f s) target h in
      let q = sort_after-step shape.schema f s t.mid t.first in
      element_along path t.mid target (image d f.n x) t.second
      (subst (λ (r : SortId). IsElement d r (image d f.n x)) q.target_is (image-element f q.decl x q.known (subst (λ (r : SortId). IsElement d r x) (sym q.source) e)))

  module _ (rows : List RelId) (params : List SortId) (v : Values) (values : AreValues shape d rows params v) where
    base-element : (b : Base) (s : SortId) → sort_of_base shape rows params b ≡ Some s → IsElement d s (value_of_base d v b)
    base-element (Var x) s h = values.vars.each x.n s h
    base-element (Cell row column) s h =
        let t = and_then_through (λ (r : RelId). option_and_then (λ (columns : List SortId). slice_get columns column) (slice_get shape.relations r.n)) (slice_get rows row) s h in
        let u = and_then_through (λ (columns : List SortId). slice_get columns column) (slice_get shape.relations t.mid.n) s t.second in
        let cells = values.each_row row t.mid t.first in
        cells.each column s (rw (get_or_from_slice_get shape.relations t.mid.n u.mid [] u.first) u.second)
    base-element (Constant c) s h = (db.each_constant c.n s h).1
    base-element (Undef u) s h = omega arith
    base-element (Param p) s h = values.param_values.each p s h

    -- a term with a sort stands for an element of it
    pub value-element : (t : Term) (s : SortId) → sort_of shape rows params t ≡ Some s → IsElement d s (value d v t)
    value-element t s h =
        let u = and_then_through (sort_along shape.schema t.path) (sort_of_base shape rows params t.base) s h in
        element_along t.path u.mid s (value_of_base d v t.base) u.second (base-element t.base u.mid u.first)

pub and_then_from : {A B : Type 0} (f : A → Option B) (o : Option A) (x : A) (y : B) → o ≡ Some x → f x ≡ Some y → option_and_then f o ≡ Some y
and_then_from f o x y first second = rw first second

pub sort_after-known : (schema : SchemaParts) (f : FunId) (decl : FunDecl) → slice_get schema.functions f.n ≡ Some decl → sort_after schema f decl.source ≡ Some decl.target
sort_after-known schema f decl known = rw (known, eq-eqb decl.source.n decl.source.n refl)

module _ (shape : ShapeParts) (rows : List RelId) (params : List SortId) where
  pub sort_of-undef : (s : SortId) → s.n < shape.schema.sorts → sort_of shape rows params (record { base = Undef s; path = [] }) ≡ Some s
  sort_of-undef s lt = rw (lt-ltb s.n shape.schema.sorts lt)

  pub undef-sort : (s u : SortId) → sort_of shape rows params (record { base = Undef s; path = [] }) ≡ Some u → s ≡ u
  undef-sort s u h =
      let t = and_then_through (sort_along shape.schema []) (cond (nat_lt s.n shape.schema.sorts) (Some s) None) u h in
      let b = if_some (nat_lt s.n shape.schema.sorts) s t.mid t.first in cc

  pub sort_of-constant : (c : ConstId) (s : SortId) → slice_get shape.schema.constants c.n ≡ Some s → sort_of shape rows params (record { base = Constant c; path = [] }) ≡ Some s
  sort_of-constant c s known = rw known

  pub constant-sort : (c : ConstId) (u : SortId) → sort_of shape rows params (record { base = Constant c; path = [] }) ≡ Some u → slice_get shape.schema.constants c.n ≡ Some u
  constant-sort c u h = let t = and_then_through (sort_along shape.schema []) (slice_get shape.schema.constants c.n) u h in cc
