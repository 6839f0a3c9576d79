-- A closed table of classes without a clash gives a database in which the facts hold.
use Rattle.std.proofs.Common.{◌≡◌, ◌≢◌, ℕ, zero, suc, ◌+◌, ◌<◌, ◌≤◌, Bool, true, false, List, [], ◌∷◌, ◌++◌, length, get_or, nat_eq, refl, sym, ◌∙◌, ap, subst, arith, inl, inr, append_assoc, cond}
use Rattle.std.specs.Prelude.{slice_get, Some, None, option_and_then, All, IsTrue, not, nat_lt}
use Rattle.std.proofs.lemmas.Option.{slice_get_within, get_or_from_slice_get, cond_some}
use Rattle.std.proofs.lemmas.Bool.{eqb-true, eq-eqb, ltb-true}
use Rattle.ras_logic.specs.declared.ids.SortId.{SortId}
use Rattle.ras_logic.specs.declared.ids.ConstId.{ConstId}
use Rattle.ras_logic.specs.declared.ids.FunId.{FunId}
use Rattle.ras_logic.specs.declared.ids.RelId.{RelId}
use Rattle.ras_logic.specs.declared.function.FunDecl.{FunDecl}
use Rattle.ras_logic.specs.declared.raw_db.RawDb.{RawDb}
use Rattle.ras_logic.specs.declared.values.Values.{Values}
use Rattle.ras_logic.specs.declared.term.Base.{Base}
use Rattle.ras_logic.specs.declared.term.Base.TheVariants.{Var, Cell, Constant, Undef, Param}
use Rattle.ras_logic.specs.declared.term.Term.{Term}
use Rattle.ras_logic.specs.declared.literal.Literal.{Literal}
use Rattle.ras_logic.specs.declared.literal.Literal.TheVariants.{Equal}
use Rattle.ras_logic.specs.Shapes.{ShapeParts}
use Rattle.ras_logic.specs.Schemas.{SchemaParts, IsSchema, IsSort, HasSorts}
use Rattle.ras_logic.specs.Databases.{IsElement, IsTable, IsDatabase, image}
use Rattle.ras_logic.specs.Truth.{AreValues, value_of_base, image_along, value}
use Rattle.ras_logic.specs.Formulas.{LiteralFits}
use Rattle.ras_logic.specs.Terms.{sort_of_base, sort_after, sort_along, sort_of, base_term, constant_term, undef_term, image_term}
use Rattle.ras_logic.proofs.TermSorts.{and_then_through, sort_after-step, sort_of-undef, sort_of-constant, constant-sort}
use Rattle.ras_logic.specs.Clashes.{IsTerm}
use Rattle.ras_closure.specs.Classes.{class, AreClosed}
use Rattle.ras_closure.specs.Numbered.{IsAt, AreTerms}
use Rattle.ras_closure.specs.Images.{HasNoImage}
use Rattle.ras_closure.specs.Models.{IsImage, IsTableOf, IsModelDb}
use Rattle.ras_closure.specs.Values.{IsElementOf, AreElementsOf, AreModelValues}
use Rattle.ras_closure.specs.Closures.{EachHolds}
use Rattle.ras_closure.proofs.Prefixes.{prefix-term}
use Rattle.ras_logic.proofs.Elements.{from_known}
use Rattle.ras_logic.proofs.SameSorts.{HasSort, term-sorted, sort_of-image}

-- undef and the constants have classes of their own, and what is apart by a fact is in two classes
pub record AreConsistent (schema : SchemaParts) (IsFact : Literal → Type 0) (terms : List Term) (classes : List ℕ) : Type 0 where
  pub rigid : (k : ℕ) → k < schema.sorts + length schema.constants → class classes k ≡ k
  pub apart : (i j : ℕ) (s t : Term) → IsAt terms i s → IsAt terms j t → IsFact (Equal s t false) → class classes i ≢ class classes j

-- Elements for terms: within a sort two are the same exactly where the classes are, and undef's is 0. A sort has an element
-- above undef where an image under a total function is missing.
pub record AreNumbers (shape : ShapeParts) (rows : List RelId) (params : List SortId) (terms : List Term) (classes : List ℕ)
    (number : ℕ → ℕ) (size : SortId → ℕ) : Type 0 where
  pub same : (i j : ℕ) → i < length terms → j < length terms → class classes i ≡ class classes j → number i ≡ number j
  pub apart : (i j : ℕ) (s t : Term) (u : SortId) → IsAt terms i s → IsAt terms j t → sort_of shape rows params s ≡ Some u → sort_of shape rows params t ≡ Some u
      → number i ≡ number j → class classes i ≡ class classes j
  pub undefs : (s : SortId) → s.n < shape.schema.sorts → number s.n ≡ 0
  pub within : (i : ℕ) (t : Term) (s : SortId) → IsAt terms i t → sort_of shape rows params t ≡ Some s → number i ≤ size s
  pub room : (f : FunId) (decl : FunDecl) → slice_get shape.schema.functions f.n ≡ Some decl → decl.total ≡ true → (x : ℕ) → 0 < x → x ≤ size decl.source
      → HasNoImage terms number f x → 0 < size decl.target

module _ (shape : ShapeParts) (rows : List RelId) (params : List SortId) (ok : IsSchema shape.schema)
    (vars_sorted : All (IsSort shape.schema.sorts) shape.vars) (columns_sorted : All (λ (r : List SortId). All (IsSort shape.schema.sorts) r) shape.relations)
    (params_sorted : All (IsSort shape.schema.sorts) params)
    (literals : List Literal) (fit : All (LiteralFits shape rows params) literals)
    (IsFact : Literal → Type 0) (facts_fit : (l : Literal) → IsFact l → LiteralFits shape rows params l)
    (facts_known : (s t : Term) (same : Bool) → IsFact (Equal s t same) → IsTerm shape.schema literals s × IsTerm shape.schema literals t)
    (terms : List Term) (classes : List ℕ) (are : AreTerms shape.schema literals terms) (closed : AreClosed shape.schema IsFact terms classes)
    (consistent : AreConsistent shape.schema IsFact terms classes)
    (number : ℕ → ℕ) (size : SortId → ℕ) (numbers : AreNumbers shape rows params terms classes number size) where
  sort_of_term : (i : ℕ) (t : Term) → IsAt terms i t → HasSort shape rows params t
  sort_of_term i t at = term-sorted shape rows params literals fit (are.known i t at)

  -- a term of undef's number is in undef's class
  zero_class : (i : ℕ) (t : Term) (s : SortId) → IsAt terms i t → sort_of shape rows params t ≡ Some s → s.n < shape.schema.sorts → number i ≡ 0 → class classes i ≡ class classes s.n
  zero_class i t s at sorted lt z =
      numbers.apart i s.n t (undef_term s) s at (are.undefs s lt) sorted (sort_of-undef shape rows params s lt) (z ∙ sym (numbers.undefs s lt))

  undef_number : (i : ℕ) (t : Term) (s : SortId) → IsAt terms i t → s.n < shape.schema.sorts → class classes i ≡ class classes s.n → number i ≡ 0
  undef_number i t s at lt e =
      numbers.same i s.n (slice_get_within terms i t at) (slice_get_within terms s.n (undef_term s) (are.undefs s lt)) e ∙ numbers.undefs s lt

  source-within : (f : FunId) (decl : FunDecl) → slice_get shape.schema.functions f.n ≡ Some decl → decl.source.n < shape.schema.sorts
  source-within f decl known = (from_known (HasSorts shape.schema.sorts) shape.schema.functions ok.functions f.n decl known).0

  target-within : (f : FunId) (decl : FunDecl) → slice_get shape.schema.functions f.n ≡ Some decl → decl.target.n < shape.schema.sorts
  target-within f decl known = (from_known (HasSorts shape.schema.sorts) shape.schema.functions ok.functions f.n decl known).1

  -- the sorts of a term and its image
  record ImageSorts (t : Term) (f : FunId) : Type 0 where
    decl : FunDecl
    known : slice_get shape.schema.functions f.n ≡ Some decl
    source : sort_of shape rows params t ≡ Some decl.source
    target : sort_of shape rows params (image_term t f) ≡ Some decl.target

  image_sorts : (k : ℕ) (t : Term) (f : FunId) → IsAt terms k (image_term t f) → ImageSorts t f
  image_sorts k t f at =
      let h = sort_of_term k (image_term t f) at in
      let w = and_then_through (sort_after shape.schema f) (sort_of shape rows params t) h.sort (sym (sort_of-image shape rows params t f) ∙ h.is_sort) in
      let q = sort_after-step shape.schema f w.mid h.sort w.second in
      record { decl = q.decl; known = q.known; source = rw q.source w.first; target = rw q.target_is h.is_sort }

  -- terms of one number have images of one number
  image_number : (i k j l : ℕ) (s t : Term) (f : FunId) → IsAt terms i s → IsAt terms k (image_term s f) → IsAt terms j t → IsAt terms l (image_term t f)
      → number i ≡ number j → number k ≡ number l
  image_number i k j l s t f at_i at_k at_j at_l e =
      let a = image_sorts k s f at_k in
      let b = image_sorts l t f at_l in
      let same : b.decl ≡ a.decl = cc in
      numbers.same k l (slice_get_within terms k (image_term s f) at_k) (slice_get_within terms l (image_term t f) at_l)
      (closed.same_images i j k l s t f at_i at_j at_k at_l (numbers.apart i j s t a.decl.source at_i at_j a.source (subst (λ (d : FunDecl). sort_of shape rows params t ≡ Some d.source) same b.source) e))

  -- the image of undef's number is undef's
  image_zero : (i k : ℕ) (t : Term) (f : FunId) → IsAt terms i t → IsAt terms k (image_term t f) → number i ≡ 0 → number k ≡ 0
  image_zero i k t f at_i at_k z =
      let a = image_sorts k t f at_k in
      undef_number k (image_term t f) a.decl.target at_k (target-within f a.decl a.known)
      (closed.image_of_undef i k t f a.decl a.known at_i at_k (zero_class i t a.decl.source at_i a.source (source-within f a.decl a.known) z))

  -- under a total function only undef's number has undef's as image
  only_zero : (i k : ℕ) (t : Term) (f : FunId) (decl : FunDecl) → slice_get shape.schema.functions f.n ≡ Some decl → decl.total ≡ true
      → IsAt terms i t → IsAt terms k (image_term t f) → number k ≡ 0 → number i ≡ 0
  only_zero i k t f decl known total at_i at_k z =
      let a = image_sorts k t f at_k in
      let same : a.decl ≡ decl = cc in
      undef_number i t decl.source at_i (source-within f decl known)
      (closed.only_undef i k t f decl known total at_i at_k
      (zero_class k (image_term t f) decl.target at_k (subst (λ (d : FunDecl). sort_of shape rows params (image_term t f) ≡ Some d.target) same a.target) (target-within f decl known) z))

  -- no constant has undef's number
  constant_above : (c : ConstId) (s : SortId) → slice_get shape.schema.constants c.n ≡ Some s → 0 < number (shape.schema.sorts + c.n)
  constant_above c s known = above (number (shape.schema.sorts + c.n)) (λ (z : number (shape.schema.sorts + c.n) ≡ 0).
      let lt = slice_get_within shape.schema.constants c.n s known in
      let sort_lt : s.n < shape.schema.sorts = from_known (IsSort shape.schema.sorts) shape.schema.constants ok.constants c.n s known in
      let e = zero_class (shape.schema.sorts + c.n) (constant_term c) s (are.constants c lt) (sort_of-constant shape rows params c s known) sort_lt z in
      let one : class classes (shape.schema.sorts + c.n) ≡ shape.schema.sorts + c.n = consistent.rigid (shape.schema.sorts + c.n) (omega arith) in
      let two : class classes s.n ≡ s.n = consistent.rigid s.n (omega arith) in
      omega arith)
    where
      above : (n : ℕ) → (n ≡ 0 → ⊥) → 0 < n
      above zero h = absurd (h refl)
      above (suc n) h = omega arith

  constant_apart : (c e : ConstId) (s : SortId) → slice_get shape.schema.constants c.n ≡ Some s → slice_get shape.schema.constants e.n ≡ Some s
      → number (shape.schema.sorts + c.n) ≡ number (shape.schema.sorts + e.n) → c.n ≡ e.n
  constant_apart c e s known known2 same =
      let lt = slice_get_within shape.schema.constants c.n s known in
      let lt2 = slice_get_within shape.schema.constants e.n s known2 in
      let k = numbers.apart (shape.schema.sorts + c.n) (shape.schema.sorts + e.n) (constant_term c) (constant_term e) s (are.constants c lt) (are.constants e lt2)
      (sort_of-constant shape rows params c s known) (sort_of-constant shape rows params e s known2) same in
      let one : class classes (shape.schema.sorts + c.n) ≡ shape.schema.sorts + c.n = consistent.rigid (shape.schema.sorts + c.n) (omega arith) in
      let two : class classes (shape.schema.sorts + e.n) ≡ shape.schema.sorts + e.n = consistent.rigid (shape.schema.sorts + e.n) (omega arith) in
      omega arith

  -- an image is an element
  image-within : (f : FunId) (decl : FunDecl) (x y : ℕ) → slice_get shape.schema.functions f.n ≡ Some decl → IsImage terms number size f decl x y → y ≤ size decl.target
  image-within f decl x y known (inl h) =
      let a = image_sorts h.1 h.2 f h.4 in
      let same : a.decl ≡ decl = cc in
      let le = numbers.within h.1 (image_term h.2 f) decl.target h.4 (subst (λ (d : FunDecl). sort_of shape rows params (image_term h.2 f) ≡ Some d.target) same a.target) in
      omega (arith, le, h.6)
  image-within f decl x y known (inr h) = rw h.1 (choice decl.total)
    where
      choice : (b : Bool) → cond b (size decl.target) 0 ≤ size decl.target
      choice true = omega arith
      choice false = omega arith

  image-above : (f : FunId) (decl : FunDecl) (x y : ℕ) → slice_get shape.schema.functions f.n ≡ Some decl → decl.total ≡ true → 0 < x → x ≤ size decl.source
      → IsImage terms number size f decl x y → 0 < y
  image-above f decl x y known total lt le (inl h) = above y (λ (z : y ≡ 0).
      let back = only_zero h.0 h.1 h.2 f decl known total h.3 h.4 (sym h.6 ∙ z) in omega (arith, h.5, back))
    where
      above : (n : ℕ) → (n ≡ 0 → ⊥) → 0 < n
      above zero h = absurd (h refl)
      above (suc n) h = omega arith
  image-above f decl x y known total lt le (inr h) = rw (h.1, total) (numbers.room f decl known total x lt le h.0)

  image-of_term : (f : FunId) (decl : FunDecl) (x y i k : ℕ) (t : Term) → IsImage terms number size f decl x y → IsAt terms i t → IsAt terms k (image_term t f)
      → number i ≡ x → y ≡ number k
  image-of_term f decl x y i k t (inl h) at_i at_k e = h.6 ∙ image_number h.0 h.1 i k h.2 t f h.3 h.4 at_i at_k (h.5 ∙ sym e)
  image-of_term f decl x y i k t (inr h) at_i at_k e = absurd (h.0 i k t at_i at_k e)

  module _ (d : RawDb) (db : IsModelDb shape.schema terms number size d) where
    table_of : (f : FunId) (decl : FunDecl) → slice_get shape.schema.functions f.n ≡ Some decl → IsTableOf terms number size f decl (get_or d.tables f.n [])
    table_of f decl known = db.tables.each f decl (rw db.as_many_tables (slice_get_within shape.schema.functions f.n decl known)) known

    model-table : (f : FunId) (decl : FunDecl) → slice_get shape.schema.functions f.n ≡ Some decl → IsTable d decl (get_or d.tables f.n [])
    model-table f decl known =
        let table = table_of f decl known in record {
          as_long = table.long ∙ sym (db.sizes decl.source (source-within f decl known));
          in_target = λ k lt.
              let le = image-within f decl (k + 1) (get_or (get_or d.tables f.n []) k 0) known (table.images k lt) in
              omega (arith, le, db.sizes decl.target (target-within f decl known));
          total = λ total k lt.
              image-above f decl (k + 1) (get_or (get_or d.tables f.n []) k 0) known total (omega arith) (omega (arith, lt, table.long)) (table.images k lt);
        }

    pub model-database : IsDatabase shape.schema d
    model-database = record {
      sizes = db.as_many_sizes;
      tables = db.as_many_tables;
      each_table = λ k f known. model-table (record { n = k }) f known;
      constants = db.as_many_constants;
      each_constant = λ k s known.
          let lt = slice_get_within shape.schema.constants k s known in
          let c : ConstId = record { n = k } in
          let is = db.constants k lt in
          let sort_lt : s.n < shape.schema.sorts = from_known (IsSort shape.schema.sorts) shape.schema.constants ok.constants k s known in
          let above = constant_above c s known in
          let le = numbers.within (shape.schema.sorts + k) (constant_term c) s (are.constants c lt) (sort_of-constant shape rows params c s known) in
          (omega arith, omega (arith, db.sizes s sort_lt));
      apart = λ j k s known known2 e.
          constant_apart (record { n = j }) (record { n = k }) s known known2
          (sym (db.constants j (slice_get_within shape.schema.constants j s known)) ∙ e ∙ db.constants k (slice_get_within shape.schema.constants k s known2));
    }

    -- the image of the number of a term
    image-number : (i k : ℕ) (t : Term) (f : FunId) → IsAt terms i t → IsAt terms k (image_term t f) → image d f.n (number i) ≡ number k
    image-number i k t f at_i at_k = go (number i) refl
      where
        go : (x : ℕ) → number i ≡ x → image d f.n x ≡ number k
        go zero e = sym (image_zero i k t f at_i at_k e)
        go (suc x) e =
            let a = image_sorts k t f at_k in
            let le = numbers.within i t a.decl.source at_i a.source in
            let lt : x < size a.decl.source = omega (arith, le, e) in
            let table = table_of f a.decl a.known in
            image-of_term f a.decl (x + 1) (get_or (get_or d.tables f.n []) x 0) i k t (table.images x (rw table.long lt)) at_i at_k (omega (arith, e))

    module _ (v : Values) (values : AreModelValues shape rows params terms number v) where
      row_of : (k : ℕ) (r : RelId) → slice_get rows k ≡ Some r → AreElementsOf terms number (Cell k) (length (get_or shape.relations r.n [])) (get_or v.rows k [])
      row_of k r known = values.rows_with.each k r (rw values.as_many_rows (slice_get_within rows k r known)) known

      number-within : (b : Base) (s : SortId) (x : ℕ) → sort_of shape rows params (base_term b) ≡ Some s → s.n < shape.schema.sorts
          → IsElementOf terms number b x → IsElement d s x
      number-within b s x sorted lt (inl h) = let le = numbers.within h.0 (base_term b) s h.1 sorted in omega (arith, le, h.2, db.sizes s lt)
      number-within b s x sorted lt (inr h) = omega (arith, h.1)

      number-is : (b : Base) (x i : ℕ) → IsElementOf terms number b x → IsAt terms i (base_term b) → x ≡ number i
      number-is b x i (inl h) at = h.2 ∙ ap number (are.different h.0 i (base_term b) h.1 at)
      number-is b x i (inr h) at = absurd (h.0 i at)

      pub model-values : AreValues shape d rows params v
      model-values = record {
        vars = record {
          as_many = values.vars.as_many;
          each = λ k s known. number-within (Var (record { n = k })) s (get_or v.vars k 0) (rw known) (from_known (IsSort shape.schema.sorts) shape.vars vars_sorted k s known)
              (values.vars.each k (slice_get_within shape.vars k s known));
        };
        as_many_rows = values.as_many_rows;
        each_row = λ k r known. record {
          as_many = (row_of k r known).as_many;
          each = λ c s in_row. number-within (Cell k c) s (get_or (get_or v.rows k []) c 0) (cell_sort k c r s known in_row) (column_sort r c s in_row)
              ((row_of k r known).each c (slice_get_within (get_or shape.relations r.n []) c s in_row));
        };
        param_values = record {
          as_many = values.param_values.as_many;
          each = λ k s known. number-within (Param k) s (get_or v.params k 0) (rw known) (from_known (IsSort shape.schema.sorts) params params_sorted k s known)
              (values.param_values.each k (slice_get_within params k s known));
        };
      }
        where
          known_relation : (relations : List (List SortId)) (n c : ℕ) (s : SortId) → slice_get (get_or relations n []) c ≡ Some s → slice_get relations n ≡ Some (get_or relations n [])
          known_relation [] n c s h = absurd (cc)
          known_relation (r ∷ rs) zero c s h = refl
          known_relation (r ∷ rs) (suc n) c s h = known_relation rs n c s h

          cell_sort : (k c : ℕ) (r : RelId) (s : SortId) → slice_get rows k ≡ Some r → slice_get (get_or shape.relations r.n []) c ≡ Some s → sort_of shape rows params (base_term (Cell k c)) ≡ Some s
          cell_sort k c r s known h = rw (known, known_relation shape.relations r.n c s h, h)

          column_sort : (r : RelId) (c : ℕ) (s : SortId) → slice_get (get_or shape.relations r.n []) c ≡ Some s → s.n < shape.schema.sorts
          column_sort r c s h =
              from_known (IsSort shape.schema.sorts) (get_or shape.relations r.n [])
              (from_known (λ (q : List SortId). All (IsSort shape.schema.sorts) q) shape.relations columns_sorted r.n (get_or shape.relations r.n []) (known_relation shape.relations r.n c s h)) c s h

      -- the value of a base
      base_number : (b : Base) (i : ℕ) → IsAt terms i (base_term b) → value_of_base d v b ≡ number i
      base_number (Var x) i at =
          let h = sort_of_term i (base_term (Var x)) at in
          let w = and_then_through (sort_along shape.schema []) (slice_get shape.vars x.n) h.sort h.is_sort in
          number-is (Var x) (get_or v.vars x.n 0) i (values.vars.each x.n (slice_get_within shape.vars x.n w.mid w.first)) at
      base_number (Cell row column) i at =
          let h = sort_of_term i (base_term (Cell row column)) at in
          let w = and_then_through (sort_along shape.schema []) (sort_of_base shape rows params (Cell row column)) h.sort h.is_sort in
          let t = and_then_through (λ (r : RelId). option_and_then (λ (columns : List SortId). slice_get columns column) (slice_get shape.relations r.n)) (slice_get rows row) w.mid w.first in
          let u = and_then_through (λ (columns : List SortId). slice_get columns column) (slice_get shape.relations t.mid.n) w.mid t.second in
          let lt : column < length (get_or shape.relations t.mid.n []) = rw (get_or_from_slice_get shape.relations t.mid.n u.mid [] u.first) (slice_get_within u.mid column w.mid u.second) in
          number-is (Cell row column) (get_or (get_or v.rows row []) column 0) i ((row_of row t.mid t.first).each column lt) at
      base_number (Constant c) i at =
          let h = sort_of_term i (constant_term c) at in
          let lt = slice_get_within shape.schema.constants c.n h.sort (constant-sort shape rows params c h.sort h.is_sort) in
          db.constants c.n lt ∙ ap number (are.different (shape.schema.sorts + c.n) i (constant_term c) (are.constants c lt) at)
      base_number (Undef s) i at =
          let h = sort_of_term i (undef_term s) at in
          let lt : s.n < shape.schema.sorts = undef_within h.sort h.is_sort in
          sym (numbers.undefs s lt) ∙ ap number (are.different s.n i (undef_term s) (are.undefs s lt) at)
        where
          undef_within : (u : SortId) → sort_of shape rows params (undef_term s) ≡ Some u → s.n < shape.schema.sorts
          undef_within u e =
              let w = and_then_through (sort_along shape.schema []) (cond (nat_lt s.n shape.schema.sorts) (Some s) None) u e in
              ltb-true s.n shape.schema.sorts (cond_some (nat_lt s.n shape.schema.sorts) s w.mid w.first).0
      base_number (Param p) i at =
          let h = sort_of_term i (base_term (Param p)) at in
          let w = and_then_through (sort_along shape.schema []) (slice_get params p) h.sort h.is_sort in
          number-is (Param p) (get_or v.params p 0) i (values.param_values.each p (slice_get_within params p w.mid w.first)) at

      path_number : (b : Base) (rest pre : List FunId) (i j : ℕ) → IsAt terms i (record { base = b; path = pre }) → IsAt terms j (record { base = b; path = pre ++ rest })
          → image_along d rest (number i) ≡ number j
      path_number b [] pre i j at_i at_j = ap number (are.different i j (record { base = b; path = pre }) at_i (subst (λ (p : List FunId). IsAt terms j (record { base = b; path = p })) (append-nil pre) at_j))
        where
          append-nil : (xs : List FunId) → xs ++ [] ≡ xs
          append-nil [] = refl
          append-nil (x ∷ xs) = ap (λ (ys : List FunId). x ∷ ys) (append-nil xs)
      path_number b (f ∷ rest) pre i j at_i at_j =
          let t : Term = record { base = b; path = pre } in
          let whole : Term = record { base = b; path = pre ++ f ∷ rest } in
          let again : (pre ++ f ∷ []) ++ rest ≡ pre ++ f ∷ rest = append_assoc pre (f ∷ []) rest in
          let k = are.complete (image_term t f) (prefix-term shape.schema literals (image_term t f) {p = whole} (refl, (rest, sym again)) (are.known j whole at_j)) in
          let at_j2 : IsAt terms j (record { base = b; path = (pre ++ f ∷ []) ++ rest }) = subst (λ (p : List FunId). IsAt terms j (record { base = b; path = p })) (sym again) at_j in
          ap (image_along d rest) (image-number i k.0 t f at_i k.1) ∙ path_number b rest (pre ++ f ∷ []) k.0 j k.1 at_j2

      pub value-number : (i : ℕ) (t : Term) → IsAt terms i t → value d v t ≡ number i
      value-number i t at =
          let b = are.complete (base_term t.base) (prefix-term shape.schema literals (base_term t.base) {p = t} (refl, (t.path, refl)) (are.known i t at)) in
          ap (image_along d t.path) (base_number t.base b.0 b.1) ∙ path_number t.base t.path [] b.0 i b.1 at

      -- terms of one sort in different classes have different values
      pub model-apart : (i j : ℕ) (s t : Term) (u : SortId) → IsAt terms i s → IsAt terms j t → sort_of shape rows params s ≡ Some u → sort_of shape rows params t ≡ Some u
          → value d v s ≡ value d v t → class classes i ≡ class classes j
      model-apart i j s t u at_i at_j left right e =
          numbers.apart i j s t u at_i at_j left right (sym (value-number i s at_i) ∙ e ∙ value-number j t at_j)

      pub model-holds : EachHolds d v IsFact
      model-holds (Equal s t true) fact =
          let known = facts_known s t true fact in let a = are.complete s known.0 in let b = are.complete t known.1 in
          eq-eqb (value d v s) (value d v t)
          (value-number a.0 s a.1 ∙ numbers.same a.0 b.0 (slice_get_within terms a.0 s a.1) (slice_get_within terms b.0 t b.1) (closed.stated a.0 b.0 s t a.1 b.1 fact) ∙ sym (value-number b.0 t b.1))
      model-holds (Equal s t false) fact =
          let known = facts_known s t false fact in let a = are.complete s known.0 in let b = are.complete t known.1 in let f = facts_fit (Equal s t false) fact in
          differ (nat_eq (value d v s) (value d v t)) (λ (e : nat_eq (value d v s) (value d v t) ≡ true).
          consistent.apart a.0 b.0 s t a.1 b.1 fact (model-apart a.0 b.0 s t f.0 a.1 b.1 f.1 f.2 (eqb-true (value d v s) (value d v t) e)))
        where
          differ : (x : Bool) → (x ≡ true → ⊥) → IsTrue (not x)
          differ true h = absurd (h refl)
          differ false h = refl
