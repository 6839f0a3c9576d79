-- A database with more elements in which the terms of a problem have given values.
use Rattle.std.proofs.Common.{◌≡◌, ◌≢◌, ℕ, zero, suc, ◌+◌, ◌<◌, ◌≤◌, Bool, true, false, List, [], ◌∷◌, ◌++◌, length, get_or, refl, sym, ◌∙◌, ap, subst, arith, ◌⊎◌, inl, inr, ⊎_elim, append_assoc, cond}
use Rattle.std.specs.Prelude.{slice_get, Some, None, option_and_then, All}
use Rattle.std.proofs.lemmas.Option.{slice_get_within, get_or_from_slice_get, slice_get-get_or}
use Rattle.std.proofs.lemmas.List.{get_or_past}
use Rattle.ras_logic.specs.declared.ids.SortId.{SortId}
use Rattle.ras_logic.specs.declared.ids.ConstId.{ConstId}
use Rattle.ras_logic.specs.declared.ids.FunId.{FunId}
use Rattle.ras_logic.specs.declared.ids.RelId.{RelId}
use Rattle.ras_logic.specs.declared.function.FunDecl.{FunDecl}
use Rattle.ras_logic.specs.declared.raw_db.RawDb.{RawDb}
use Rattle.ras_logic.specs.declared.values.Values.{Values}
use Rattle.ras_logic.specs.declared.term.Base.{Base}
use Rattle.ras_logic.specs.declared.term.Base.TheVariants.{Var, Cell, Constant, Undef, Param}
use Rattle.ras_logic.specs.declared.term.Term.{Term}
use Rattle.ras_logic.specs.Schemas.{IsSort, HasSorts}
use Rattle.ras_logic.specs.Shapes.{ShapeParts}
use Rattle.ras_logic.specs.Databases.{IsElement, IsTable as IsFunctionTable, IsDatabase, Extends, image, constant_of, size_of}
use Rattle.ras_logic.specs.Truth.{AreValues, AreElements, value_of_base, image_along, value}
use Rattle.ras_logic.specs.Formulas.{IsNoParam}
use Rattle.ras_logic.specs.Terms.{sort_after, sort_along, sort_of, base_term, image_term}
use Rattle.ras_logic.proofs.TermSorts.{and_then_through, sort_after-step}
use Rattle.ras_closure.specs.Numbered.{IsAt, IsTable, IsSortOf, TableParts}
use Rattle.ras_closure.specs.Images.{HasNoImage}
use Rattle.ras_closure.specs.Models.{IsImage}
use Rattle.ras_closure.specs.Values.{IsElementOf, AreElementsOf}
use Rattle.ras_closure.proofs.Prefixes.{prefix-term}
use Rattle.ras_logic.proofs.Elements.{from_known}
use Rattle.ras_logic.proofs.SameSorts.{HasSort, sort_of-image}
use Rattle.ras_closure.proofs.Merges.{table-sorted}
use Rattle.ras_closure.proofs.Cases.{some_same, none_some, le_or, below_or}
use Rattle.ras_cover.specs.Covers.{with_params}
use Rattle.ras_cover.specs.Extensions.{AreNumbersOver, IsTableOver, IsDbOver}
use Rattle.ras_extension.proofs.Truth.{values-larger}

-- an image of an element of the smaller database
image-kept : (shape : ShapeParts) (d e : RawDb) → IsDatabase shape.schema d → Extends e d → (f : FunId) (decl : FunDecl) (x : ℕ)
    → slice_get shape.schema.functions f.n ≡ Some decl → IsElement d decl.source x → image e f.n x ≡ image d f.n x
image-kept shape d e db larger f decl zero known el = refl
image-kept shape d e db larger f decl (suc k) known el =
    let t = db.each_table f.n decl known in
    let lt : k < length (get_or d.tables f.n []) = rw t.as_long (omega arith) in
    get_or_from_slice_get (get_or e.tables f.n []) k (get_or (get_or d.tables f.n []) k 0) 0
    (larger.tables f.n k lt ∙ slice_get-get_or (get_or d.tables f.n []) k 0 lt)

module _ (t : TableParts) (table : IsTable t) (d : RawDb) (db : IsDatabase t.shape.schema d) (v : Values)
    (values : AreValues t.shape d t.problem.rows [] v) (number : ℕ → ℕ) (size : SortId → ℕ) (over : AreNumbersOver t d v number size) where
  sorts-of : (f : ℕ) (decl : FunDecl) → slice_get t.shape.schema.functions f ≡ Some decl → HasSorts t.shape.schema.sorts decl
  sorts-of f decl known = from_known (HasSorts t.shape.schema.sorts) t.shape.schema.functions table.shape.schema.functions f decl known

  -- the sorts of a term and its image
  record ImageSorts (s : Term) (f : FunId) : Type 0 where
    decl : FunDecl
    known : slice_get t.shape.schema.functions f.n ≡ Some decl
    source : IsSortOf t s decl.source
    target : IsSortOf t (image_term s f) decl.target

  image_sorts : (k : ℕ) (s : Term) (f : FunId) → IsAt t.terms k (image_term s f) → ImageSorts s f
  image_sorts k s f at =
      let h = table-sorted t table k (image_term s f) at in
      let w = and_then_through (sort_after t.shape.schema f) (sort_of t.shape t.problem.rows t.problem.params s) h.sort (sym (sort_of-image t.shape t.problem.rows t.problem.params s f) ∙ h.is_sort) in
      let q = sort_after-step t.shape.schema f w.mid h.sort w.second in
      record { decl = q.decl; known = q.known; source = rw q.source w.first; target = rw q.target_is h.is_sort }

  image-target : (k : ℕ) (s : Term) (f : FunId) (decl : FunDecl) → slice_get t.shape.schema.functions f.n ≡ Some decl → IsAt t.terms k (image_term s f) → IsSortOf t (image_term s f) decl.target
  image-target k s f decl known at =
      let a = image_sorts k s f at in
      let same : a.decl ≡ decl = cc in
      subst (λ (q : FunDecl). IsSortOf t (image_term s f) q.target) same a.target

  -- an image is an element
  image-within : (f : FunId) (decl : FunDecl) (x y : ℕ) → slice_get t.shape.schema.functions f.n ≡ Some decl → IsImage t.terms number size f decl x y → y ≤ size decl.target
  image-within f decl x y known (inl h) = let le = over.within h.1 (image_term h.2 f) decl.target h.4 (image-target h.1 h.2 f decl known h.4) in omega (arith, le, h.6)
  image-within f decl x y known (inr h) = rw h.1 (choice decl.total)
    where
      choice : (b : Bool) → cond b (size decl.target) 0 ≤ size decl.target
      choice true = omega arith
      choice false = omega arith

  image-above : (f : FunId) (decl : FunDecl) (x y : ℕ) → slice_get t.shape.schema.functions f.n ≡ Some decl → decl.total ≡ true → size_of d decl.source < x
      → x ≤ size decl.source → IsImage t.terms number size f decl x y → 0 < y
  image-above f decl x y known total lt le (inl h) = let p = over.total h.0 h.1 h.2 f decl h.3 h.4 known total (omega (arith, lt, h.5)) in omega (arith, p, h.6)
  image-above f decl x y known total lt le (inr h) = let r = over.filled f decl known total (omega (arith, lt, le)) in rw (h.1, total) r

  module _ (e : RawDb) (is : IsDbOver t d number size e) where
    table_of : (f : FunId) (decl : FunDecl) → slice_get t.shape.schema.functions f.n ≡ Some decl → IsTableOver t d number size f decl (get_or d.tables f.n []) (get_or e.tables f.n [])
    table_of f decl known = is.each_table f decl known

    size-is : (s : SortId) → s.n < t.shape.schema.sorts → size_of e s ≡ size s
    size-is s lt = is.sizes s lt

    larger-table : (f : FunId) (decl : FunDecl) → slice_get t.shape.schema.functions f.n ≡ Some decl → IsFunctionTable e decl (get_or e.tables f.n [])
    larger-table f decl known =
        let q = table_of f decl known in
        let sorts = sorts-of f.n decl known in
        let old = db.each_table f.n decl known in
        record {
          as_long = q.long ∙ sym (size-is decl.source sorts.0);
          in_target = λ k lt.
              ⊎_elim
              (λ (below : k < size_of d decl.source).
              let le = old.in_target k (rw old.as_long below) in let r = over.grows decl.target sorts.1 in let s = size-is decl.target sorts.1 in
              let same = q.old k below in omega (arith, le, r, s, same))
              (λ (beyond : size_of d decl.source ≤ k).
              let le = image-within f decl (k + 1) (get_or (get_or e.tables f.n []) k 0) known (q.images k beyond lt) in let s = size-is decl.target sorts.1 in omega (arith, le, s))
              (below_or k (size_of d decl.source));
          total = λ total k lt.
              ⊎_elim
              (λ (below : k < size_of d decl.source). let p = old.total total k (rw old.as_long below) in let same = q.old k below in omega (arith, p, same))
              (λ (beyond : size_of d decl.source ≤ k).
              image-above f decl (k + 1) (get_or (get_or e.tables f.n []) k 0) known total (omega (arith, beyond)) (omega (arith, lt, q.long)) (q.images k beyond lt))
              (below_or k (size_of d decl.source));
        }

    pub extension-database : IsDatabase t.shape.schema e
    extension-database = record {
      sizes = is.as_many_sizes;
      tables = is.as_many_tables;
      each_table = λ k f known. larger-table (record { n = k }) f known;
      constants = ap (λ (xs : List ℕ). length xs) is.constants ∙ db.constants;
      each_constant = λ k s known.
          let old = db.each_constant k s known in
          let same : constant_of e k ≡ constant_of d k = ap (λ (xs : List ℕ). get_or xs k 0) is.constants in
          let lt : s.n < t.shape.schema.sorts = from_known (IsSort t.shape.schema.sorts) t.shape.schema.constants table.shape.schema.constants k s known in
          let r = over.grows s lt in let q = size-is s lt in let le = old.1 in let above = old.0 in
          (omega (arith, above, same), omega (arith, le, same, r, q));
      apart = λ j k s known known2 same.
          db.apart j k s known known2 (sym (ap (λ (xs : List ℕ). get_or xs j 0) is.constants) ∙ same ∙ ap (λ (xs : List ℕ). get_or xs k 0) is.constants);
    }

    pub extension-extends : Extends e d
    extension-extends = record { sizes = sizes; tables = tables; constants = is.constants }
      where
        sizes : (s : ℕ) → get_or d.sizes s 0 ≤ get_or e.sizes s 0
        sizes s =
            ⊎_elim
            (λ (lt : s < t.shape.schema.sorts). let r = over.grows (record { n = s }) lt in let q = size-is (record { n = s }) lt in omega (arith, r, q))
            (λ (beyond : t.shape.schema.sorts ≤ s). let z = get_or_past d.sizes s 0 (omega (arith, db.sizes, beyond)) in omega (arith, z))
            (below_or s t.shape.schema.sorts)

        tables : (f k : ℕ) → k < length (get_or d.tables f []) → slice_get (get_or e.tables f []) k ≡ slice_get (get_or d.tables f []) k
        tables f k lt =
            ⊎_elim
            (λ (below : f < length t.shape.schema.functions).
            let decl : FunDecl = get_or t.shape.schema.functions f (record { source = record { n = 0 }; target = record { n = 0 }; total = false }) in
            let known : slice_get t.shape.schema.functions f ≡ Some decl = slice_get-get_or t.shape.schema.functions f (record { source = record { n = 0 }; target = record { n = 0 }; total = false }) below in
            let q = table_of (record { n = f }) decl known in
            let old = db.each_table f decl known in
            let r = over.grows decl.source (sorts-of f decl known).0 in
            let inside : k < size_of d decl.source = rw (← old.as_long) lt in
            let same = q.old k inside in
            slice_get-get_or (get_or e.tables f []) k 0 (omega (arith, q.long, r, inside)) ∙ ap (λ (x : ℕ). Some x) same ∙ sym (slice_get-get_or (get_or d.tables f []) k 0 lt))
            (λ (beyond : length t.shape.schema.functions ≤ f).
            let none : get_or d.tables f [] ≡ [] = get_or_past d.tables f [] (omega (arith, db.tables, beyond)) in
            let no : k < length {A = ℕ} [] = subst (λ (xs : List ℕ). k < length xs) none lt in
            absurd (omega (arith, no)))
            (below_or f (length t.shape.schema.functions))

    -- the image of the number of a term
    image-number : (i k : ℕ) (s : Term) (f : FunId) → IsAt t.terms i s → IsAt t.terms k (image_term s f) → image e f.n (number i) ≡ number k
    image-number i k s f at_i at_k =
        let a = image_sorts k s f at_k in
        ⊎_elim
        (λ (old : number i ≤ size_of d a.decl.source).
        image-kept t.shape d e db extension-extends f a.decl (number i) a.known old ∙ sym (over.known i k s f a.decl at_i at_k a.known old))
        (λ (new : size_of d a.decl.source < number i). fresh a.decl a.known a.source new (number i) refl) (le_or (number i) (size_of d a.decl.source))
      where
        of_image : (decl : FunDecl) (x y : ℕ) → slice_get t.shape.schema.functions f.n ≡ Some decl → size_of d decl.source < x → number i ≡ x → IsImage t.terms number size f decl x y → y ≡ number k
        of_image decl x y known new same (inl h) =
            h.6 ∙ over.fresh h.0 h.1 i k h.2 s f decl h.3 h.4 at_i at_k known (h.5 ∙ sym same) (omega (arith, new, h.5))
        of_image decl x y known new same (inr h) = absurd (h.0 i k s at_i at_k same)

        fresh : (decl : FunDecl) → slice_get t.shape.schema.functions f.n ≡ Some decl → IsSortOf t s decl.source → size_of d decl.source < number i → (x : ℕ) → number i ≡ x → image e f.n x ≡ number k
        fresh decl known source new zero same = absurd (omega (arith, new, same))
        fresh decl known source new (suc x) same =
            let q = table_of f decl known in
            let le = over.within i s decl.source at_i source in
            of_image decl (x + 1) (get_or (get_or e.tables f.n []) x 0) known (omega (arith, new, same)) (omega (arith, same)) (q.images x (omega (arith, new, same)) (omega (arith, le, same, q.long)))

    module _ (params : List ℕ) (are : AreElementsOf t.terms number Param (length t.problem.params) params) where
      param-within : (p : ℕ) (s : SortId) (x : ℕ) → slice_get t.problem.params p ≡ Some s → IsElementOf t.terms number (Param p) x → IsElement e s x
      param-within p s x known (inl h) =
          let sorted : IsSortOf t (base_term (Param p)) s = rw known in
          let lt : s.n < t.shape.schema.sorts = from_known (IsSort t.shape.schema.sorts) t.problem.params table.fits.params p s known in
          let le = over.within h.0 (base_term (Param p)) s h.1 sorted in omega (arith, le, h.2, size-is s lt)
      param-within p s x known (inr h) = omega (arith, h.1)

      pub extension-values : AreValues t.shape e t.problem.rows t.problem.params (with_params v params)
      extension-values =
          let kept = values-larger t.shape e d t.problem.rows [] v extension-extends values in
          record {
            vars = kept.vars;
            as_many_rows = kept.as_many_rows;
            each_row = kept.each_row;
            param_values = record {
              as_many = are.as_many;
              each = λ k s known. param-within k s (get_or params k 0) known (are.each k (slice_get_within t.problem.params k s known));
            };
          }

      number-is : (p x i : ℕ) → IsElementOf t.terms number (Param p) x → IsAt t.terms i (base_term (Param p)) → x ≡ number i
      number-is p x i (inl h) at = h.2 ∙ ap number (table.terms.different h.0 i (base_term (Param p)) h.1 at)
      number-is p x i (inr h) at = absurd (h.0 i at)

      -- the value of a base
      base_number : (b : Base) (i : ℕ) → IsAt t.terms i (base_term b) → value_of_base e (with_params v params) b ≡ number i
      base_number (Var x) i at = sym (over.base i (Var x) at tt)
      base_number (Cell row column) i at = sym (over.base i (Cell row column) at tt)
      base_number (Constant c) i at = ap (λ (xs : List ℕ). get_or xs c.n 0) is.constants ∙ sym (over.base i (Constant c) at tt)
      base_number (Undef s) i at = sym (over.base i (Undef s) at tt)
      base_number (Param p) i at =
          let h = table-sorted t table i (base_term (Param p)) at in
          let w = and_then_through (sort_along t.shape.schema []) (slice_get t.problem.params p) h.sort h.is_sort in
          number-is p (get_or params p 0) i (are.each p (slice_get_within t.problem.params p w.mid w.first)) at

      path_number : (b : Base) (rest pre : List FunId) (i j : ℕ) → IsAt t.terms i (record { base = b; path = pre }) → IsAt t.terms j (record { base = b; path = pre ++ rest })
          → image_along e rest (number i) ≡ number j
      path_number b [] pre i j at_i at_j = ap number (table.terms.different i j (record { base = b; path = pre }) at_i (subst (λ (p : List FunId). IsAt t.terms j (record { base = b; path = p })) (append-nil pre) at_j))
        where
          append-nil : (xs : List FunId) → xs ++ [] ≡ xs
          append-nil [] = refl
          append-nil (x ∷ xs) = ap (λ (ys : List FunId). x ∷ ys) (append-nil xs)
      path_number b (f ∷ rest) pre i j at_i at_j =
          let s : Term = record { base = b; path = pre } in
          let whole : Term = record { base = b; path = pre ++ f ∷ rest } in
          let again : (pre ++ f ∷ []) ++ rest ≡ pre ++ f ∷ rest = append_assoc pre (f ∷ []) rest in
          let k = table.terms.complete (image_term s f) (prefix-term t.shape.schema t.problem.literals (image_term s f) {p = whole} (refl, (rest, sym again)) (table.terms.known j whole at_j)) in
          let at_j2 : IsAt t.terms j (record { base = b; path = (pre ++ f ∷ []) ++ rest }) = subst (λ (p : List FunId). IsAt t.terms j (record { base = b; path = p })) (sym again) at_j in
          ap (image_along e rest) (image-number i k.0 s f at_i k.1) ∙ path_number b rest (pre ++ f ∷ []) k.0 j k.1 at_j2

      -- each term has its number as value
      pub extension-value : (i : ℕ) (s : Term) → IsAt t.terms i s → value e (with_params v params) s ≡ number i
      extension-value i s at =
          let b = table.terms.complete (base_term s.base) (prefix-term t.shape.schema t.problem.literals (base_term s.base) {p = s} (refl, (s.path, refl)) (table.terms.known i s at)) in
          ap (image_along e s.path) (base_number s.base b.0 b.1) ∙ path_number s.base s.path [] b.0 i b.1 at
