-- Elements for the terms of a case, in a database in which its cube holds.
use Rattle.std.proofs.Common.{◌≡◌, ◌≢◌, ℕ, zero, suc, ◌+◌, ◌<◌, ◌≤◌, Bool, true, false, List, [], ◌∷◌, ◌++◌, length, get_or, nat_eq, refl, sym, ◌∙◌, ap, subst, arith, ◌⊎◌, inl, inr, ⊎_elim}
use Rattle.std.specs.Prelude.{slice_get, Option, Some, None, option_and_then, unwrap_or, All, IsTrue, not, Contains}
use Rattle.std.proofs.lemmas.Option.{slice_get_within, get_or_from_slice_get}
use Rattle.std.proofs.lemmas.Bool.{eqb-true, eq-eqb}
use Rattle.ras_logic.specs.declared.ids.SortId.{SortId}
use Rattle.ras_logic.specs.declared.ids.FunId.{FunId}
use Rattle.ras_logic.specs.declared.ids.RelId.{RelId}
use Rattle.ras_logic.specs.declared.function.FunDecl.{FunDecl}
use Rattle.ras_logic.specs.declared.raw_db.RawDb.{RawDb}
use Rattle.ras_logic.specs.declared.values.Values.{Values}
use Rattle.ras_logic.specs.declared.term.Base.{Base}
use Rattle.ras_logic.specs.declared.term.Base.TheVariants.{Var, Cell, Constant, Undef, Param}
use Rattle.ras_logic.specs.declared.term.Term.{Term}
use Rattle.ras_logic.specs.declared.literal.Literal.{Literal}
use Rattle.ras_logic.specs.declared.literal.Literal.TheVariants.{Equal}
use Rattle.ras_logic.specs.Shapes.{ShapeParts}
use Rattle.ras_logic.specs.Databases.{IsElement, IsDatabase, image, size_of}
use Rattle.ras_logic.specs.Truth.{AreValues, value_of_base, value, holds}
use Rattle.ras_logic.specs.Formulas.{IsNoParam, LiteralFits}
use Rattle.ras_logic.specs.Terms.{sort_of_base, sort_along, sort_of, base_term, image_term, undef_term}
use Rattle.ras_logic.proofs.TermSorts.{value-element, sort_of-undef}
use Rattle.ras_closure.specs.Numbered.{IsAt, IsTable, IsSortOf, TableParts}
use Rattle.ras_closure.specs.Classes.{class}
use Rattle.ras_closure.specs.Closures.{ClosureParts, IsClosure, IsFactOf}
use Rattle.ras_logic.proofs.Elements.{from_known}
use Rattle.ras_logic.proofs.SameSorts.{image-source}
use Rattle.ras_logic.proofs.Soundness.{value-image}
use Rattle.ras_closure.proofs.Merges.{table-sorted, link-of, sort-exists}
use Rattle.ras_closure.proofs.Laws.{consistent}
use Rattle.ras_closure.proofs.Cases.{some_same, none_some, le_or, below_or, true_false}
use Rattle.ras_split.specs.Standing.{StandsIn, standing, AreStanding, IsOwn, own_base, own_image, AreAllStanding}
use Rattle.ras_cubes.specs.Dues.{IsTermDue, IsImageDue, IsFactDueOf, IsFactDue, IsDue}
use Rattle.ras_cover.specs.Extensions.{AreNumbersFor, AreNumbersOver}
use Rattle.ras_split.proofs.Stands.{stands-free, stands-sort}

-- the sort of a term without a data parameter does not speak of their sorts
pub sort-free : (shape : ShapeParts) (rows : List RelId) (params other : List SortId) (t : Term) → IsNoParam t.base → sort_of shape rows params t ≡ sort_of shape rows other t
sort-free shape rows params other t free = ap (option_and_then (sort_along shape.schema t.path)) (base t.base free)
  where
    base : (b : Base) → IsNoParam b → sort_of_base shape rows params b ≡ sort_of_base shape rows other b
    base (Var x) free = refl
    base (Cell row column) free = refl
    base (Constant c) free = refl
    base (Undef s) free = refl
    base (Param p) free = absurd free

pub there-or : {X : Type 0} (o : Option X) → ((x : X) × (o ≡ Some x)) ⊎ (o ≡ None)
there-or None = inr refl
there-or (Some x) = inl (x, refl)

pub not-equal : (x y : ℕ) → IsTrue (not (nat_eq x y)) → x ≢ y
not-equal x y h e = differ (nat_eq x y) h (eq-eqb x y e)
  where
    differ : (b : Bool) → IsTrue (not b) → b ≡ true → ⊥
    differ true h e = true_false (sym h)
    differ false h e = true_false (sym e)

module _ (c : ClosureParts) (table : IsTable c.table) (closure : IsClosure c) (none : c.clash ≡ None) (terms : List (Option Term)) (all : AreAllStanding c terms)
    (d : RawDb) (db : IsDatabase c.table.shape.schema d) (v : Values) (values : AreValues c.table.shape d c.table.problem.rows [] v)
    (hold : (l : Literal) → IsDue c terms l → IsTrue (holds d v l)) (number : ℕ → ℕ) (size : SortId → ℕ) (are : AreNumbersFor c terms d v number size) where
  -- what stands for a term is an element of its sort
  old-within : (i : ℕ) (t r : Term) (s : SortId) → IsAt c.table.terms i t → IsSortOf c.table t s → standing c terms i ≡ Some r → number i ≤ size_of d s
  old-within i t r s at sorted e =
      let stands = all.are.sound i t r at e in
      let sort : sort_of c.table.shape c.table.problem.rows [] r ≡ Some s =
      sort-free c.table.shape c.table.problem.rows [] c.table.problem.params r (stands-free c.table.shape.schema c.table.problem.literals (IsFactOf c) stands) ∙ stands-sort c table closure stands s sorted in
      let le : value d v r ≤ size_of d s = value-element c.table.shape d db c.table.problem.rows [] v values r s sort in
      let is = are.old i t r at e in omega arith

  -- where it is an old element, something stands for the term
  old-there : (i : ℕ) (t : Term) (s : SortId) → IsAt c.table.terms i t → IsSortOf c.table t s → number i ≤ size_of d s → (r : Term) × (standing c terms i ≡ Some r)
  old-there i t s at sorted le = ⊎_elim (λ h. h) (λ (e : standing c terms i ≡ None). let lt = are.new i t s at sorted e in absurd (omega (arith, le, lt))) (there-or (standing c terms i))

  new-none : (i : ℕ) (t : Term) (s : SortId) → IsAt c.table.terms i t → IsSortOf c.table t s → size_of d s < number i → standing c terms i ≡ None
  new-none i t s at sorted lt =
      ⊎_elim (λ (h : (r : Term) × (standing c terms i ≡ Some r)). let le = old-within i t h.0 s at sorted h.1 in absurd (omega (arith, le, lt))) (λ e. e) (there-or (standing c terms i))

  number-same : (i j : ℕ) (s t : Term) (u : SortId) → IsAt c.table.terms i s → IsAt c.table.terms j t → IsSortOf c.table s u → IsSortOf c.table t u → class c.classes i ≡ class c.classes j
      → number i ≡ number j
  number-same i j s t u at_i at_j left right e =
      ⊎_elim
      (λ (h : (r : Term) × (standing c terms i ≡ Some r)).
      are.old i s h.0 at_i h.1 ∙ sym (are.old j t h.0 at_j (ap (λ (x : ℕ). get_or terms x None) (sym e) ∙ h.1)))
      (λ (none_i : standing c terms i ≡ None). are.same i j s t u at_i at_j left right none_i e)
      (there-or (standing c terms i))

  -- the sorts of a term and its image
  source-sort : (k : ℕ) (s : Term) (f : FunId) (decl : FunDecl) → slice_get c.table.shape.schema.functions f.n ≡ Some decl → IsAt c.table.terms k (image_term s f)
      → IsSortOf c.table s decl.source × IsSortOf c.table (image_term s f) decl.target
  source-sort k s f decl known at =
      let h = table-sorted c.table table k (image_term s f) at in
      let q = image-source c.table.shape c.table.problem.rows c.table.problem.params s f decl h.sort known h.is_sort in
      (q.0, h.is_sort ∙ ap (λ (w : SortId). Some w) q.1)

  term-due : (i : ℕ) (u r : Term) → IsOwn c terms i u → standing c terms i ≡ Some r → value d v u ≡ value d v r
  term-due i u r own e = eqb-true (value d v u) (value d v r) (hold (Equal u r true) (inl (i, record { own = u; by = r; is_own = own; stands = e; is = refl })))

  pub numbers-over : AreNumbersOver c.table d v number size
  numbers-over = record {
    base = λ i b at free.
        let own = own_base b at free in
        let r = all.full i (slice_get_within c.table.terms i (base_term b) at) (base_term b) own in
        are.old i (base_term b) r.0 at r.1 ∙ sym (term-due i (base_term b) r.0 own r.1);
    known = λ i k s f decl at_i at_k known le.
        let sorts = source-sort k s f decl known at_k in
        let q = old-there i s decl.source at_i sorts.0 le in
        let own = own_image i f s q.0 (link-of c.table table k i s f at_i at_k) at_i q.1 in
        let r = all.full k (slice_get_within c.table.terms k (image_term s f) at_k) (image_term q.0 f) own in
        are.old k (image_term s f) r.0 at_k r.1 ∙ sym (term-due k (image_term q.0 f) r.0 own r.1) ∙ value-image d v q.0 f ∙ ap (image d f.n) (sym (are.old i s q.0 at_i q.1));
    fresh = λ i k j l s u f decl at_i at_k at_j at_l known e lt.
        let one = source-sort k s f decl known at_k in
        let two = source-sort l u f decl known at_l in
        let none_i = new-none i s decl.source at_i one.0 lt in
        let none_j = new-none j u decl.source at_j two.0 (omega (arith, e, lt)) in
        let same = are.differ i j s u decl.source at_i at_j one.0 two.0 none_i none_j e in
        number-same k l (image_term s f) (image_term u f) decl.target at_k at_l one.1 two.1 (closure.closed.same_images i j k l s u f at_i at_j at_k at_l same);
    total = λ i k s f decl at_i at_k known total lt.
        let sorts = source-sort k s f decl known at_k in
        let none_i = new-none i s decl.source at_i sorts.0 lt in
        ⊎_elim
        (λ (h : (r : Term) × (standing c terms k ≡ Some r)).
        let is = are.old k (image_term s f) h.0 at_k h.1 in
        let due : IsImageDue c terms k (Equal h.0 (undef_term decl.target) false) = record {
          of = i;
          f = f;
          decl = decl;
          by = h.0;
          link = link-of c.table table k i s f at_i at_k;
          known = known;
          total = total;
          none = none_i;
          stands = h.1;
          is = refl;
        } in
        let differ = not-equal (value d v h.0) 0 (hold (Equal h.0 (undef_term decl.target) false) (inr (inl (k, due)))) in
        above (number k) (λ (z : number k ≡ 0). differ (sym is ∙ z)))
        (λ (e : standing c terms k ≡ None). let lt_k = are.new k (image_term s f) decl.target at_k sorts.1 e in omega (arith, lt_k))
        (there-or (standing c terms k));
    within = λ i s sort at sorted.
        ⊎_elim (λ (h : (r : Term) × (standing c terms i ≡ Some r)). let le = old-within i s h.0 sort at sorted h.1 in let g = are.grows sort (sort-exists c.table table s sort sorted) in omega (arith, le, g))
        (λ (e : standing c terms i ≡ None). are.within i s sort at sorted e)
        (there-or (standing c terms i));
    grows = are.grows;
    filled = are.filled;
  }
    where
      above : (n : ℕ) → (n ≡ 0 → ⊥) → 0 < n
      above zero h = absurd (h refl)
      above (suc n) h = omega arith

  -- the literals of the problem hold of the elements
  pub numbers-same : (s t : Term) (i j : ℕ) → IsFactOf c (Equal s t true) → IsAt c.table.terms i s → IsAt c.table.terms j t → number i ≡ number j
  numbers-same s t i j fact at_i at_j =
      let fits = closure.facts_fit (Equal s t true) fact in
      number-same i j s t fits.0 at_i at_j fits.1 fits.2 (closure.closed.stated i j s t at_i at_j fact)

  pub numbers-differ : (n : ℕ) (s t : Term) (i j : ℕ) → slice_get c.table.problem.literals n ≡ Some (Equal s t false) → IsFactOf c (Equal s t false) → IsAt c.table.terms i s → IsAt c.table.terms j t
      → number i ≢ number j
  numbers-differ n s t i j inside fact at_i at_j e =
      let fits = closure.facts_fit (Equal s t false) fact in
      ⊎_elim
      (λ (h : (q : Term) × (standing c terms i ≡ Some q)).
      ⊎_elim
      (λ (g : (r : Term) × (standing c terms j ≡ Some r)). both h.0 g.0 h.1 g.1)
      (λ (g : standing c terms j ≡ None). let le = old-within i s h.0 fits.0 at_i fits.1 h.1 in let lt = are.new j t fits.0 at_j fits.2 g in absurd (omega (arith, le, lt, e)))
      (there-or (standing c terms j)))
      (λ (h : standing c terms i ≡ None).
      ⊎_elim
      (λ (g : (r : Term) × (standing c terms j ≡ Some r)). let le = old-within j t g.0 fits.0 at_j fits.2 g.1 in let lt = are.new i s fits.0 at_i fits.1 h in absurd (omega (arith, le, lt, e)))
      (λ (g : standing c terms j ≡ None).
      (consistent c table closure none).apart i j s t at_i at_j fact (are.differ i j s t fits.0 at_i at_j fits.1 fits.2 h g e))
      (there-or (standing c terms j)))
      (there-or (standing c terms i))
    where
      both : (q r : Term) → standing c terms i ≡ Some q → standing c terms j ≡ Some r → ⊥
      both q r at_q at_r =
          not-equal (value d v q) (value d v r)
          (hold (Equal q r false) (inr (inr (
            n,
            record {
              fact = Equal s t false;
              known = inside;
              due = record { s = s; t = t; i = i; j = j; q = q; r = r; sides = refl; left = at_i; right = at_j; left_by = at_q; right_by = at_r; is = refl };
            },
          ))))
          (sym (are.old i s q at_i at_q) ∙ e ∙ are.old j t r at_j at_r)
