-- The cubes of the cases of a problem are a cover of it.
use Rattle.std.proofs.Common.{◌≡◌, ℕ, zero, suc, ◌+◌, ◌<◌, ◌≤◌, Bool, true, false, List, [], ◌∷◌, ◌++◌, length, get_or, map, refl, sym, ◌∙◌, ap, subst, arith, ◌⊎◌, inl, inr, ⊎_elim}
use Rattle.std.specs.Prelude.{slice_get, Option, Some, None, Result, Ok, Err, IfOk, MatchOption, All, IsTrue, Contains, ◌↔◌}
use Rattle.std.proofs.lemmas.Option.{slice_get_within, same_Some}
use Rattle.ras_logic.specs.declared.ids.RelId.{RelId}
use Rattle.ras_logic.specs.declared.raw_db.RawDb.{RawDb}
use Rattle.ras_logic.specs.declared.values.Values.{Values}
use Rattle.ras_logic.specs.declared.problem.Problem.{Problem}
use Rattle.ras_logic.specs.declared.term.Term.{Term}
use Rattle.ras_logic.specs.declared.literal.Literal.{Literal}
use Rattle.ras_logic.specs.declared.literal.Literal.TheVariants.{Equal}
use Rattle.ras_logic.specs.Schemas.{IsSort}
use Rattle.ras_logic.specs.Shapes.{ShapeParts, IsShape, IsRelation}
use Rattle.ras_logic.specs.Databases.{IsDatabase, size_of}
use Rattle.ras_logic.specs.Truth.{AreValues, holds, Satisfies}
use Rattle.ras_logic.specs.Formulas.{HasNoParam, LiteralFits, Fits, IsCube}
use Rattle.ras_logic.specs.Clashes.{FactsClash}
use Rattle.ras_logic.proofs.Clashes.{clash-none}
use Rattle.ras_closure.specs.Numbered.{IsTable, TableParts}
use Rattle.ras_closure.specs.Closures.{ClosureParts, IsClosure, IsFactOf}
use Rattle.ras_closure.proofs.Cases.{below_or_same, none_some}
use Rattle.ras_closure.proofs.Existence.{not_without}
use Rattle.ras_extension.proofs.Truth.{extends-itself}
use Rattle.ras_split.specs.Among.{IsAmong}
use Rattle.ras_closure.specs.Closings.{IsClosureOf}
use Rattle.ras_logic.specs.declared.ids.SortId.{SortId}
use Rattle.ras_cover.specs.Covers.{with_params, bare, AreCubesOf, AreImplied, AreExtendable, HasExtension, SatisfiesAny, AreTidy, IsCover}
use Rattle.ras_cubes.specs.Reduced.{IsOnce, IsReducedCube}
use Rattle.ras_split.specs.Splits.{IsModel, HasMore, HoldsIn, AreCases, IsCaseTo, IsSettled}
use Rattle.ras_split.specs.Standing.{CaseParts}
use Rattle.ras_cover.specs.Within.{AreAlike, Admits}
use Rattle.ras_cubes.specs.Dues.{IsCubeOfCase, IsCubeFor}
use Rattle.ras_cover.specs.CaseCubes.{IsCaseIn, IsOwnCube, AreCubesTo}
use Rattle.ras_logic.proofs.Elements.{from_known, contains-at, at-contains}
use Rattle.ras_split.proofs.Listed.{all-among, any-among, among-more, among-last, among-either, among-none}
use Rattle.ras_cubes.proofs.Needed.{reduced-is_cube, reduced-fits, reduced-satisfied, full-satisfied}
use Rattle.ras_cover.proofs.Extending.{holds-bare, extendable-strongest, number-of}
use Rattle.ras_cover.proofs.Numbering.{sort-free}
use Rattle.ras_cover.proofs.Implied.{cube-is, cube-fits, cube-implied}
use Rattle.ras_cover.proofs.Extendable.{case-extends}

-- a cube that some closure without a clash satisfies everywhere does not clash
pub open-no_clash : (shape : ShapeParts) → IsShape shape → (c : ClosureParts) → IsTable c.table → IsClosure c → c.clash ≡ None → c.table.shape ≡ shape → (q : Problem) → Fits shape q
    → ((d : RawDb) (v : Values) → IsModel c d v → Satisfies shape d (bare v) q) → FactsClash shape.schema q.literals → ⊥
open-no_clash shape ok c table closure none shape_is q fits satisfied clash =
    not_without c table closure none
    (λ d v db values facts.
    let s = satisfied d v (record { database = db; values = values; facts = facts }) in
    clash-none shape d (subst (λ (x : ShapeParts). IsDatabase x.schema d) shape_is db) q.rows q.params (bare v) s.values ok.schema q.literals fits.literals s.literals clash)

pub cubes-start : (shape : ShapeParts) (cases : List CaseParts) → AreCubesTo shape cases 0 []
cubes-start shape cases = record { each = λ p h. absurd (among-none p h); all = λ k c lt known. absurd (omega (arith, lt)) }

-- one cube more
pub cubes-on : (shape : ShapeParts) (cases : List CaseParts) (n : ℕ) (cubes new : List Problem) (c : CaseParts) (p : Problem) → AreCubesTo shape cases n cubes → slice_get cases n ≡ Some c
    → IsCubeFor shape c p → Admits shape cubes p new → AreCubesTo shape cases (n + 1) new
cubes-on shape cases n cubes new c p are known is admits = record {
  each = λ q h. ⊎_elim (λ (old : IsAmong cubes q). are.each q old)
      (λ (e : q ≡ p). (c, record { number = n; known = known }, subst (λ (w : Problem). IsCubeFor shape c w) (sym e) is)) (admits.each q h);
  all = λ k e lt at. ⊎_elim
      (λ (below : k < n).
      let q = are.all k e below at in
      (q.0, q.1, λ d v db s. let found = q.2 d v db s in admits.kept found.1 (record { number = found.0; known = number-of (Satisfies shape d v) cubes found }) d v db found.4))
      (λ (here : k ≡ n).
      (p, subst (λ (w : CaseParts). IsCubeFor shape w p) (same_Some c e (sym known ∙ subst (λ (m : ℕ). slice_get cases m ≡ Some e) here at)) is, admits.added)) (below_or_same k n lt);
}

-- the cubes of cases of one problem are alike
pub cubes-alike : (shape : ShapeParts) (problem : Problem) (cases : List CaseParts) (n : ℕ) (cubes : List Problem) → AreCubesTo shape cases n cubes
    → ((c : CaseParts) → IsAmong cases c → IsCaseIn shape problem c) → (c : CaseParts) → IsAmong cases c → (p : Problem) → IsCubeFor shape c p
    → (q : Problem) → IsAmong cubes q → AreAlike p q
cubes-alike shape problem cases n cubes are in_cases c among p is q h =
    let f = are.each q h in
    record {
      rows = rows f.0 f.1 q f.2 ∙ sym (rows c among p is);
      params = f.2.reduced.params ∙ sym is.reduced.params;
    }
  where
    rows : (e : CaseParts) → IsAmong cases e → (x : Problem) → IsCubeFor shape e x → x.rows ≡ problem.rows
    rows e at x for_e = for_e.reduced.rows ∙ for_e.of.cube.rows ∙ ap (λ (y : Problem). y.rows) (in_cases e at).problem_is

module _ (shape : ShapeParts) (problem : Problem) (first : ClosureParts) (of : IsClosureOf shape problem first) (cases : List CaseParts) (are : AreCases first cases) where
  shape-of : (c : CaseParts) → IsAmong cases c → c.closure.table.shape ≡ shape
  shape-of c among = ap (λ (b : TableParts). b.shape) (are.each c among).more.table ∙ of.shape_is

  problem-of : (c : CaseParts) → IsAmong cases c → c.closure.table.problem ≡ problem
  problem-of c among = ap (λ (b : TableParts). b.problem) (are.each c among).more.table ∙ of.problem_is

  pub case-in : (c : CaseParts) → IsAmong cases c → IsCaseIn shape problem c
  case-in c among = record { shape_is = shape-of c among; problem_is = problem-of c among }

  pub facts-of : (c : CaseParts) → IsAmong cases c → (l : Literal) → IsAmong c.closure.table.problem.literals l → IsFactOf c.closure l
  facts-of c among l h =
      let here : IsAmong problem.literals l = subst (λ (q : Problem). IsAmong q.literals l) (problem-of c among) h in
      (are.each c among).more.facts l ((of.asserted l).1 (contains-at problem.literals here.number l here.known))

  settled-of : (c : CaseParts) → IsAmong cases c → (i : ℕ) → i < length c.closure.table.terms → IsSettled c.closure i
  settled-of c among i lt = let case = are.each c among in case.settled i (subst (λ (b : TableParts). i < length b.terms) case.more.table lt)

  first-model : (d : RawDb) (v : Values) → IsDatabase shape.schema d → Satisfies shape d v problem → IsModel first d v
  first-model d v db satisfied = record {
    database = subst (λ (s : ShapeParts). IsDatabase s.schema d) (sym of.shape_is) db;
    values = subst (λ (s : ShapeParts). AreValues s d first.table.problem.rows first.table.problem.params v) (sym of.shape_is)
        (subst (λ (q : Problem). AreValues shape d q.rows q.params v) (sym of.problem_is) satisfied.values);
    facts = λ l fact. let h = (of.asserted l).0 fact in subst (λ (m : Literal). IsTrue (holds d v m)) h.2 (satisfied.literals h.0 l h.1);
  }

  moved : (c : ClosureParts) (d : RawDb) (v : Values) → HasMore first c → IsModel first d v → ((l : Literal) → IsFactOf c l → IsTrue (holds d v l)) → IsModel c d v
  moved c d v more model facts = record {
    database = subst (λ (b : TableParts). IsDatabase b.shape.schema d) (sym more.table) model.database;
    values = subst (λ (b : TableParts). AreValues b.shape d b.problem.rows b.problem.params v) (sym more.table) model.values;
    facts = facts;
  }

  -- where the facts of a case hold, its cube does
  case-implied : (c : CaseParts) → IsAmong cases c → (p : Problem) → IsCubeOfCase c p → (d : RawDb) (v : Values) → IsModel c.closure d v → Satisfies shape d (bare v) p
  case-implied c among p is d v model =
      subst (λ (s : ShapeParts). Satisfies s d (bare v) p) (shape-of c among)
      (cube-implied c.closure is.table is.closure c.terms is.standing p is.cube d v model (facts-of c among) (settled-of c among))

  -- a case whose cube is satisfied where the problem is
  pub record IsHeld (d : RawDb) (v : Values) : Type 0 where
    pub one : CaseParts
    pub among : IsAmong cases one
    pub implied : (p : Problem) → IsCubeOfCase one p → Satisfies shape d (bare v) p

  pub held : (d : RawDb) (v : Values) → IsDatabase shape.schema d → Satisfies shape d v problem → IsHeld d v
  held d v db satisfied =
      let model = first-model d v db satisfied in
      let h = are.complete d v model in
      record {
        one = h.one;
        among = h.among;
        implied = λ p is. case-implied h.one h.among p is d v (moved h.one.closure d v (are.each h.one h.among).more model h.facts);
      }

  -- the cube of a case fits, and is one
  pub full-fits : (c : CaseParts) → IsAmong cases c → (p : Problem) → IsCubeOfCase c p → Fits shape p
  full-fits c among p is = subst (λ (s : ShapeParts). Fits s p) (shape-of c among) (cube-fits c.closure is.table is.closure c.terms is.standing p is.cube)

  full-cube : (c : CaseParts) (p : Problem) → IsCubeOfCase c p → IsCube p
  full-cube c p is = cube-is c.closure is.table is.closure c.terms is.standing p is.cube

  module _ (ok : IsShape shape) (cubes : List Problem) (by : AreCubesTo shape cases (length cases) cubes) where
    fits-one : (p : Problem) → IsAmong cubes p → Fits shape p
    fits-one p h = let f = by.each p h in reduced-fits shape f.2.full p (full-cube f.0 f.2.full f.2.of) f.2.reduced (full-fits f.0 f.1 f.2.full f.2.of)

    cube-one : (p : Problem) → IsAmong cubes p → IsCube p
    cube-one p h = let f = by.each p h in reduced-is_cube shape f.2.full p (full-cube f.0 f.2.full f.2.of) f.2.reduced

    rows-one : (p : Problem) → IsAmong cubes p → p.rows ≡ problem.rows
    rows-one p h = let f = by.each p h in f.2.reduced.rows ∙ f.2.of.cube.rows ∙ ap (λ (q : Problem). q.rows) (problem-of f.0 f.1)

    cover-cubes : AreCubesOf shape problem cubes
    cover-cubes = record {
      fit = all-among (Fits shape) cubes fits-one;
      are_cubes = all-among IsCube cubes cube-one;
      rows = all-among (λ (c : Problem). c.rows ≡ problem.rows) cubes rows-one;
    }

    cover-implied : AreImplied shape problem cubes
    cover-implied d v db satisfied =
        let h = held d v db satisfied in
        let q = by.all h.among.number h.one (slice_get_within cases h.among.number h.one h.among.known) h.among.known in
        q.2 d (bare v) db (reduced-satisfied shape q.1.full q.0 (full-cube h.one q.1.full q.1.of) q.1.reduced d (bare v) (h.implied q.1.full q.1.of))

    cover-extendable : AreExtendable shape problem cubes
    cover-extendable d v db some =
        let f = by.each some.1 (record { number = some.0; known = number-of (Satisfies shape d v) cubes some }) in
        let whole = full-satisfied shape f.2.full some.1 (full-cube f.0 f.2.full f.2.of) f.2.reduced d v db some.4 in
        let db_c = subst (λ (s : ShapeParts). IsDatabase s.schema d) (sym (shape-of f.0 f.1)) db in
        let satisfied = subst (λ (s : ShapeParts). Satisfies s d v f.2.full) (sym (shape-of f.0 f.1)) whole in
        subst (λ (q : Problem). HasExtension shape q d v) (problem-of f.0 f.1)
        (subst (λ (s : ShapeParts). HasExtension s f.0.closure.table.problem d v) (shape-of f.0 f.1)
        (case-extends f.0.closure f.2.of.table f.2.of.closure (are.each f.0 f.1).more.no_clash f.0.terms f.2.of.standing f.2.full f.2.of.cube (facts-of f.0 f.1) d v db_c satisfied))

    pub cover-is : IsCover shape problem cubes
    cover-is = record {
      cubes_of = cover-cubes;
      implied = cover-implied;
      strongest = extendable-strongest shape problem cubes cover-cubes cover-extendable;
      extendable = cover-extendable;
    }

    pub cover-tidy : AreTidy shape cubes
    cover-tidy = record {
      no_clash = all-among (λ (c : Problem). FactsClash shape.schema c.literals → ⊥) cubes
          (λ p h.
          let f = by.each p h in
          open-no_clash shape ok f.0.closure f.2.of.table f.2.of.closure (are.each f.0 f.1).more.no_clash (shape-of f.0 f.1) p (fits-one p h)
          (λ d v model. reduced-satisfied shape f.2.full p (full-cube f.0 f.2.full f.2.of) f.2.reduced d (bare v) (case-implied f.0 f.1 f.2.full f.2.of d v model)));
      once = all-among (λ (c : Problem). IsOnce c.literals) cubes (λ p h. (by.each p h).2.reduced.reduced.once);
    }

-- the one of a list of one
only : (q p : Problem) → IsAmong (q ∷ []) p → p ≡ q
only q p h = ⊎_elim (λ (n : IsAmong [] p). absurd (among-none p n)) (λ e. e) (among-either [] q p h)

-- a literal that names no data parameter fits without them
free-fits : (shape : ShapeParts) (rows : List RelId) (params other : List SortId) (l : Literal) → HasNoParam l → LiteralFits shape rows params l → LiteralFits shape rows other l
free-fits shape rows params other (Equal left right same) none fits =
    (fits.0, sym (sort-free shape rows params other left none.0) ∙ fits.1, sym (sort-free shape rows params other right none.1) ∙ fits.2)

-- what satisfies the facts of a problem's closure satisfies the problem
pub closure-satisfied : (shape : ShapeParts) (problem : Problem) (c : ClosureParts) → IsClosureOf shape problem c → (d : RawDb) (v : Values) → IsModel c d v → Satisfies shape d v problem
closure-satisfied shape problem c of d v model = record {
  values = subst (λ (p : Problem). AreValues shape d p.rows p.params v) of.problem_is (subst (λ (s : ShapeParts). AreValues s d c.table.problem.rows c.table.problem.params v) of.shape_is model.values);
  literals = all-among (λ (l : Literal). IsTrue (holds d v l)) problem.literals (λ l h. model.facts l ((of.asserted l).1 (contains-at problem.literals h.number l h.known)));
}

-- a problem without data parameters in its literals is covered by the cube of its own literals
module _ (shape : ShapeParts) (ok : IsShape shape) (problem : Problem) (fits : Fits shape problem) (own : Problem) (is : IsOwnCube problem own) (q : Problem) (reduced : IsReducedCube shape own q) where
  free : (l : Literal) → IsAmong problem.literals l → HasNoParam l
  free l h = let a : IsAmong own.literals l = subst (λ (ls : List Literal). IsAmong ls l) (sym is.literals) h in from_known HasNoParam own.literals is.cube.unnamed a.number l a.known

  pub own-fits : Fits shape own
  own-fits = record {
    rows = subst (λ (r : List RelId). All (IsRelation shape) r) (sym is.rows) fits.rows;
    params = subst (λ (s : List SortId). All (IsSort shape.schema.sorts) s) (sym is.cube.none) (λ k x lt. absurd (omega (arith, lt)));
    literals = all-among (LiteralFits shape own.rows own.params) own.literals
        (λ l h.
        let a : IsAmong problem.literals l = subst (λ (ls : List Literal). IsAmong ls l) is.literals h in
        subst (λ (s : List SortId). LiteralFits shape own.rows s l) (sym is.cube.none)
        (subst (λ (r : List RelId). LiteralFits shape r [] l) (sym is.rows)
        (free-fits shape problem.rows problem.params [] l (free l a) (from_known (LiteralFits shape problem.rows problem.params) problem.literals fits.literals a.number l a.known))));
  }

  own-implied : (d : RawDb) (v : Values) → Satisfies shape d v problem → Satisfies shape d (bare v) own
  own-implied d v s = record {
    values = subst (λ (t : List SortId). AreValues shape d own.rows t (bare v)) (sym is.cube.none)
        (subst (λ (r : List RelId). AreValues shape d r [] (bare v)) (sym is.rows) (record {
          vars = s.values.vars;
          as_many_rows = s.values.as_many_rows;
          each_row = s.values.each_row;
          param_values = record { as_many = refl; each = λ k t known. absurd (none_some known) };
        }));
    literals = all-among (λ (l : Literal). IsTrue (holds d (bare v) l)) own.literals
        (λ l h.
        let a : IsAmong problem.literals l = subst (λ (ls : List Literal). IsAmong ls l) is.literals h in
        subst (λ (b : Bool). IsTrue b) (sym (holds-bare d v [] l (free l a))) (from_known (λ (m : Literal). IsTrue (holds d v m)) problem.literals s.literals a.number l a.known));
  }

  -- undef serves for the data parameters
  own-extends : (d : RawDb) (v : Values) → IsDatabase shape.schema d → Satisfies shape d v own → HasExtension shape problem d v
  own-extends d v db s = record {
    larger = d;
    params = undefs;
    database = db;
    extends = extends-itself d;
    satisfied = record {
      values = record {
        vars = here.vars;
        as_many_rows = here.as_many_rows;
        each_row = here.each_row;
        param_values = record { as_many = as-long problem.params; each = λ k t known. none-above problem.params k (size_of d t) };
      };
      literals = all-among (λ (l : Literal). IsTrue (holds d (with_params v undefs) l)) problem.literals
          (λ l h.
          let a : IsAmong own.literals l = subst (λ (ls : List Literal). IsAmong ls l) (sym is.literals) h in
          subst (λ (b : Bool). IsTrue b) (sym (holds-bare d v undefs l (free l h))) (from_known (λ (m : Literal). IsTrue (holds d v m)) own.literals s.literals a.number l a.known));
    };
  }
    where
      undefs : List ℕ
      undefs = map (λ (t : SortId). 0) problem.params

      here : AreValues shape d problem.rows own.params v
      here = subst (λ (r : List RelId). AreValues shape d r own.params v) is.rows s.values

      as-long : (sorts : List SortId) → length {A = ℕ} (map (λ (t : SortId). 0) sorts) ≡ length sorts
      as-long [] = refl
      as-long (t ∷ sorts) = ap suc (as-long sorts)

      none-above : (sorts : List SortId) (k n : ℕ) → get_or (map (λ (t : SortId). 0) sorts) k 0 ≤ n
      none-above [] k n = omega arith
      none-above (t ∷ sorts) zero n = omega arith
      none-above (t ∷ sorts) (suc k) n = none-above sorts k n

  own-satisfied : (d : RawDb) (v : Values) → IsDatabase shape.schema d → SatisfiesAny shape d v (q ∷ []) → Satisfies shape d v own
  own-satisfied d v db some =
      let h : IsAmong (q ∷ []) some.1 = record { number = some.0; known = number-of (Satisfies shape d v) (q ∷ []) some } in
      full-satisfied shape own q is.cube reduced d v db (subst (λ (x : Problem). Satisfies shape d v x) (only q some.1 h) some.4)

  cubes_are : AreCubesOf shape problem (q ∷ [])
  cubes_are = record {
    fit = all-among (Fits shape) (q ∷ []) (λ p h. subst (Fits shape) (sym (only q p h)) (reduced-fits shape own q is.cube reduced own-fits));
    are_cubes = all-among IsCube (q ∷ []) (λ p h. subst IsCube (sym (only q p h)) (reduced-is_cube shape own q is.cube reduced));
    rows = all-among (λ (c : Problem). c.rows ≡ problem.rows) (q ∷ []) (λ p h. ap (λ (x : Problem). x.rows) (only q p h) ∙ reduced.rows ∙ is.rows);
  }

  extendable_are : AreExtendable shape problem (q ∷ [])
  extendable_are d v db some = own-extends d v db (own-satisfied d v db some)

  pub own-cover : IsCover shape problem (q ∷ [])
  own-cover = record {
    cubes_of = cubes_are;
    implied = λ d v db s. any-among (Satisfies shape d (bare v)) (q ∷ []) q (record { number = 0; known = refl }) (reduced-satisfied shape own q is.cube reduced d (bare v) (own-implied d v s));
    strongest = extendable-strongest shape problem (q ∷ []) cubes_are extendable_are;
    extendable = extendable_are;
  }

  pub own-tidy : (c : ClosureParts) → IsTable c.table → IsClosure c → IsClosureOf shape problem c → AreTidy shape (q ∷ [])
  own-tidy c table closure of = record {
    no_clash = all-among (λ (x : Problem). FactsClash shape.schema x.literals → ⊥) (q ∷ [])
        (λ p h. subst (λ (x : Problem). FactsClash shape.schema x.literals → ⊥) (sym (only q p h))
        (open-no_clash shape ok c table closure of.no_clash of.shape_is q (reduced-fits shape own q is.cube reduced own-fits)
        (λ d v model. reduced-satisfied shape own q is.cube reduced d (bare v) (own-implied d v (closure-satisfied shape problem c of d v model)))));
    once = all-among (λ (x : Problem). IsOnce x.literals) (q ∷ []) (λ p h. subst (λ (x : Problem). IsOnce x.literals) (sym (only q p h)) reduced.reduced.once);
  }

-- no cubes are a cover of what clashes
pub clash-cover : (shape : ShapeParts) → IsShape shape → (problem : Problem) → Fits shape problem → FactsClash shape.schema problem.literals → IsCover shape problem []
clash-cover shape ok problem fits clash = record {
  cubes_of = none;
  implied = λ d v db satisfied. absurd (clash-none shape d db problem.rows problem.params v satisfied.values ok.schema problem.literals fits.literals satisfied.literals clash);
  strongest = extendable-strongest shape problem [] none extendable;
  extendable = extendable;
}
  where
    none : AreCubesOf shape problem []
    none = record {
      fit = all-among (Fits shape) [] (λ p h. absurd (among-none p h));
      are_cubes = all-among IsCube [] (λ p h. absurd (among-none p h));
      rows = all-among (λ (c : Problem). c.rows ≡ problem.rows) [] (λ p h. absurd (among-none p h));
    }

    extendable : AreExtendable shape problem []
    extendable d v db some = absurd (among-none some.1 (record { number = some.0; known = number-of (Satisfies shape d v) [] some }))
