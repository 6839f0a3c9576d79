-- The cube of a case is a cube, and holds wherever the facts of the case do.
use Rattle.std.proofs.Common.{◌≡◌, ◌≢◌, ℕ, zero, suc, ◌+◌, ◌<◌, ◌≤◌, Bool, true, false, List, [], ◌∷◌, length, get_or, nat_eq, refl, sym, ◌∙◌, ap, subst, arith, ◌⊎◌, inl, inr, ⊎_elim}
use Rattle.std.specs.Prelude.{slice_get, Option, Some, None, All, IsTrue, not}
use Rattle.std.proofs.lemmas.Option.{slice_get_within}
use Rattle.std.proofs.lemmas.Bool.{eqb-true, eq-eqb}
use Rattle.ras_logic.specs.declared.ids.SortId.{SortId}
use Rattle.ras_logic.specs.declared.ids.RelId.{RelId}
use Rattle.ras_logic.specs.declared.raw_db.RawDb.{RawDb}
use Rattle.ras_logic.specs.declared.values.Values.{Values}
use Rattle.ras_logic.specs.declared.problem.Problem.{Problem}
use Rattle.ras_logic.specs.declared.term.Term.{Term}
use Rattle.ras_logic.specs.declared.literal.Literal.{Literal}
use Rattle.ras_logic.specs.declared.literal.Literal.TheVariants.{Equal}
use Rattle.ras_logic.specs.Schemas.{HasSorts, IsSort}
use Rattle.ras_logic.specs.Shapes.{IsRelation}
use Rattle.ras_logic.specs.Databases.{IsDatabase, image}
use Rattle.ras_logic.specs.Truth.{AreValues, value, holds, Satisfies}
use Rattle.ras_logic.specs.Formulas.{IsNoParam, HasNoParam, LiteralFits, Fits, IsCube}
use Rattle.ras_logic.specs.Terms.{sort_of, image_term, undef_term}
use Rattle.ras_logic.proofs.TermSorts.{sort_of-undef, image-total, value-element}
use Rattle.ras_logic.specs.declared.ids.FunId.{FunId}
use Rattle.ras_logic.specs.declared.function.FunDecl.{FunDecl}
use Rattle.ras_closure.specs.Numbered.{IsAt, IsTable, IsSortOf, IsImageLink}
use Rattle.ras_closure.specs.Closures.{ClosureParts, IsClosure, IsFactOf}
use Rattle.ras_logic.proofs.Elements.{from_known}
use Rattle.ras_logic.proofs.SameSorts.{image-source}
use Rattle.ras_logic.proofs.Soundness.{value-image}
use Rattle.ras_closure.proofs.Merges.{table-sorted, term_at}
use Rattle.ras_closure.proofs.Cases.{none_some}
use Rattle.ras_logic.specs.declared.cube_fault.CubeFault.{CubeFault}
use Rattle.ras_logic.specs.declared.cube_fault.CubeFault.TheVariants.{Param}
use Rattle.ras_logic.specs.CubeFaults.{IsCubeFault}
use Rattle.ras_split.specs.Among.{IsAmong}
use Rattle.ras_cover.specs.Covers.{bare}
use Rattle.ras_split.specs.Standing.{StandsIn, standing, AreStanding, IsOwn, own_base, own_image, AreAllStanding, IsKept}
use Rattle.ras_split.specs.Splits.{IsModel, IsDefined, IsSettled, HasNoTotalImage}
use Rattle.ras_cubes.specs.Dues.{IsTermDue, IsImageDue, IsFactDueOf, IsFactDue, IsDue, IsTrivial, IsCubeOf}
use Rattle.ras_split.proofs.Listed.{all-among}
use Rattle.ras_cover.proofs.Extending.{holds-bare}
use Rattle.ras_split.proofs.Stands.{stands-free, stands-sort, stands-value, kept-standing}
use Rattle.ras_split.proofs.Filling.{own-stands}
use Rattle.ras_cover.proofs.Numbering.{sort-free, not-equal}

pub differ-true : (x y : ℕ) → x ≢ y → IsTrue (not (nat_eq x y))
differ-true x y h = differ (nat_eq x y) (λ e. h (eqb-true x y e))
  where
    differ : (b : Bool) → (b ≡ true → ⊥) → IsTrue (not b)
    differ true h = absurd (h refl)
    differ false h = refl

module _ (c : ClosureParts) (table : IsTable c.table) (closure : IsClosure c) (terms : List (Option Term)) (all : AreAllStanding c terms) where
  own-at : (i : ℕ) (u : Term) → IsOwn c terms i u → (t : Term) × IsAt c.table.terms i t
  own-at i u (own_base b at free) = (u, at)
  own-at i u (own_image of f s q link at_of by) = (image_term s f, table.links.images i of f s link at_of)

  own-free : (i : ℕ) (u : Term) → IsOwn c terms i u → IsNoParam u.base
  own-free i u own = let t = own-at i u own in stands-free c.table.shape.schema c.table.problem.literals (IsFactOf c) (own-stands c table closure terms all.are i t.0 u t.1 own)

  standing-free : (i : ℕ) (t r : Term) → IsAt c.table.terms i t → standing c terms i ≡ Some r → IsNoParam r.base
  standing-free i t r at e = stands-free c.table.shape.schema c.table.problem.literals (IsFactOf c) (all.are.sound i t r at e)

  -- what stands for a term has its sort
  standing-sort : (t r : Term) (s : SortId) → IsNoParam r.base → StandsIn c t r → IsSortOf c.table t s → sort_of c.table.shape c.table.problem.rows [] r ≡ Some s
  standing-sort t r s free stands sorted = sort-free c.table.shape c.table.problem.rows [] c.table.problem.params r free ∙ stands-sort c table closure stands s sorted

  image-at : (k : ℕ) (l : Literal) (due : IsImageDue c terms k l) → (s : Term) × IsAt c.table.terms due.of s × IsAt c.table.terms k (image_term s due.f)
  image-at k l due = let s = term_at c.table.terms due.of (table.links.of_terms k due.of due.f due.link) in (s.0, s.1, table.links.images k due.of due.f s.0 due.link s.1)

  pub due-free : (l : Literal) → IsDue c terms l → HasNoParam l
  due-free l (inl h) =
      let due = h.1 in
      let t = own-at h.0 due.own due.is_own in
      subst HasNoParam (sym due.is) (own-free h.0 due.own due.is_own, standing-free h.0 t.0 due.by t.1 due.stands)
  due-free l (inr (inl h)) =
      let due = h.1 in
      let s = image-at h.0 l due in
      subst HasNoParam (sym due.is) (standing-free h.0 (image_term s.0 due.f) due.by s.2 due.stands, tt)
  due-free l (inr (inr h)) =
      let due = h.1.due in
      subst HasNoParam (sym due.is) (standing-free due.i due.s due.q due.left due.left_by, standing-free due.j due.t due.r due.right due.right_by)

  pub due-fits : (l : Literal) → IsDue c terms l → LiteralFits c.table.shape c.table.problem.rows [] l
  due-fits l (inl h) =
      let due = h.1 in
      let t = own-at h.0 due.own due.is_own in
      let sort = table-sorted c.table table h.0 t.0 t.1 in
      subst (LiteralFits c.table.shape c.table.problem.rows []) (sym due.is) (
        sort.sort,
        standing-sort t.0 due.own sort.sort (own-free h.0 due.own due.is_own) (own-stands c table closure terms all.are h.0 t.0 due.own t.1 due.is_own) sort.is_sort,
        standing-sort t.0 due.by sort.sort (standing-free h.0 t.0 due.by t.1 due.stands) (all.are.sound h.0 t.0 due.by t.1 due.stands) sort.is_sort,
      )
  due-fits l (inr (inl h)) =
      let due = h.1 in
      let s = image-at h.0 l due in
      let sort = table-sorted c.table table h.0 (image_term s.0 due.f) s.2 in
      let q = image-source c.table.shape c.table.problem.rows c.table.problem.params s.0 due.f due.decl sort.sort
      due.known sort.is_sort in
      let sorted : IsSortOf c.table (image_term s.0 due.f) due.decl.target = sort.is_sort ∙ ap (λ (w : SortId). Some w) q.1 in
      let lt = (from_known (HasSorts c.table.shape.schema.sorts) c.table.shape.schema.functions table.shape.schema.functions due.f.n due.decl due.known).1 in
      subst (LiteralFits c.table.shape c.table.problem.rows []) (sym due.is) (
        due.decl.target,
        standing-sort (image_term s.0 due.f) due.by due.decl.target (standing-free h.0 (image_term s.0 due.f) due.by s.2 due.stands) (all.are.sound h.0 (image_term s.0 due.f) due.by s.2 due.stands) sorted,
        sort_of-undef c.table.shape c.table.problem.rows [] due.decl.target lt,
      )
  due-fits l (inr (inr h)) =
      let due = h.1.due in
      let at : slice_get c.table.problem.literals h.0 ≡ Some (Equal due.s due.t false) = h.1.known ∙ ap (λ (w : Literal). Some w) due.sides in
      let fits = from_known (LiteralFits c.table.shape c.table.problem.rows c.table.problem.params) c.table.problem.literals table.fits.literals h.0 (Equal due.s due.t false) at in
      subst (LiteralFits c.table.shape c.table.problem.rows []) (sym due.is) (
        fits.0,
        standing-sort due.s due.q fits.0 (standing-free due.i due.s due.q due.left due.left_by) (all.are.sound due.i due.s due.q due.left due.left_by) fits.1,
        standing-sort due.t due.r fits.0 (standing-free due.j due.t due.r due.right due.right_by) (all.are.sound due.j due.t due.r due.right due.right_by) fits.2,
      )

  module _ (d : RawDb) (v : Values) (model : IsModel c d v) (facts : (l : Literal) → IsAmong c.table.problem.literals l → IsFactOf c l) (settled : (i : ℕ) → i < length c.table.terms → IsSettled c i) where
    by-value : (i : ℕ) (t r : Term) → IsAt c.table.terms i t → standing c terms i ≡ Some r → value d v t ≡ value d v r
    by-value i t r at e = stands-value c table closure d v model (all.are.sound i t r at e)

    -- a term that nothing stands for, with an image under a total function, is not undef
    defined : (i k : ℕ) (t : Term) (f : FunId) (decl : FunDecl) → IsAt c.table.terms i t → IsImageLink c.table.links k i f → slice_get c.table.shape.schema.functions f.n ≡ Some decl → decl.total ≡ true
        → standing c terms i ≡ None → value d v t ≢ 0
    defined i k t f decl at link known total e =
        ⊎_elim
        (λ (either : (s : Term) → IsAt c.table.terms i s → IsKept c s ⊎ IsDefined c s).
        ⊎_elim (λ (h : IsKept c t). let q = kept-standing c table closure terms all h.stands i at in absurd (none_some (sym e ∙ q.1)))
        (λ (h : IsDefined c t). not-equal (value d v t) 0 (model.facts (Equal t (undef_term h.sort) false) h.fact)) (either t at))
        (λ (no_image : HasNoTotalImage c i). absurd (no_image k f decl link known total)) (settled i (slice_get_within c.table.terms i t at))

    pub due-holds : (l : Literal) → IsDue c terms l → IsTrue (holds d v l)
    due-holds l (inl h) =
        let due = h.1 in
        let t = own-at h.0 due.own due.is_own in
        let own = stands-value c table closure d v model (own-stands c table closure terms all.are h.0 t.0 due.own t.1 due.is_own) in
        subst (λ (w : Literal). IsTrue (holds d v w)) (sym due.is) (eq-eqb (value d v due.own) (value d v due.by) (sym own ∙ by-value h.0 t.0 due.by t.1 due.stands))
    due-holds l (inr (inl h)) =
        let due = h.1 in
        let s = image-at h.0 l due in
        let sort = table-sorted c.table table h.0 (image_term s.0 due.f) s.2 in
        let q = image-source c.table.shape c.table.problem.rows c.table.problem.params s.0 due.f due.decl
        sort.sort due.known sort.is_sort in
        let element = value-element c.table.shape d model.database c.table.problem.rows c.table.problem.params v model.values s.0 due.decl.source q.0 in
        let above : value d v due.by ≢ 0 = λ z.
        defined due.of h.0 s.0 due.f due.decl s.1 due.link due.known due.total due.none
        (image-total c.table.shape d model.database due.f due.decl (value d v s.0) due.known due.total element
        (sym (value-image d v s.0 due.f) ∙ by-value h.0 (image_term s.0 due.f) due.by s.2 due.stands ∙ z)) in
        subst (λ (w : Literal). IsTrue (holds d v w)) (sym due.is) (differ-true (value d v due.by) 0 above)
    due-holds l (inr (inr h)) =
        let due = h.1.due in
        let fact : IsFactOf c (Equal due.s due.t false) = facts (Equal due.s due.t false) (record { number = h.0; known = h.1.known ∙ ap (λ (w : Literal). Some w) due.sides }) in
        let apart = not-equal (value d v due.s) (value d v due.t) (model.facts (Equal due.s due.t false) fact) in
        let differ : value d v due.q ≢ value d v due.r = λ e. apart (by-value due.i due.s due.q due.left due.left_by ∙ e ∙ sym (by-value due.j due.t due.r due.right due.right_by)) in
        subst (λ (w : Literal). IsTrue (holds d v w)) (sym due.is) (differ-true (value d v due.q) (value d v due.r) differ)

  module _ (cube : Problem) (of : IsCubeOf c terms cube) where
    pub cube-is : IsCube cube
    cube-is = record { none = of.params; unnamed = all-among HasNoParam cube.literals (λ l h. due-free l (of.only l h)) }

    pub cube-fits : Fits c.table.shape cube
    cube-fits = record {
      rows = subst (λ (r : List RelId). All (IsRelation c.table.shape) r) (sym of.rows) table.fits.rows;
      params = subst (λ (q : List SortId). All (IsSort c.table.shape.schema.sorts) q) (sym of.params) (λ k x lt. absurd (omega (arith, lt)));
      literals = all-among (LiteralFits c.table.shape cube.rows cube.params) cube.literals
          (λ l h.
          subst (λ (q : List SortId). LiteralFits c.table.shape cube.rows q l) (sym of.params)
          (subst (λ (r : List RelId). LiteralFits c.table.shape r [] l) (sym of.rows) (due-fits l (of.only l h))));
    }

    -- what satisfies the facts of the case satisfies its cube
    pub cube-implied : (d : RawDb) (v : Values) → IsModel c d v → ((l : Literal) → IsAmong c.table.problem.literals l → IsFactOf c l)
        → ((i : ℕ) → i < length c.table.terms → IsSettled c i) → Satisfies c.table.shape d (bare v) cube
    cube-implied d v model facts settled = record {
      values = subst (λ (q : List SortId). AreValues c.table.shape d cube.rows q (bare v)) (sym of.params)
          (subst (λ (r : List RelId). AreValues c.table.shape d r [] (bare v)) (sym of.rows) (record {
            vars = model.values.vars;
            as_many_rows = model.values.as_many_rows;
            each_row = model.values.each_row;
            param_values = record { as_many = refl; each = λ k s known. absurd (none_some known) };
          }));
      literals = all-among (λ (l : Literal). IsTrue (holds d (bare v) l)) cube.literals
          (λ l h.
          let due = of.only l h in
          subst (λ (b : Bool). IsTrue b) (sym (holds-bare d v [] l (due-free l due))) (due-holds d v model facts settled l due));
    }
