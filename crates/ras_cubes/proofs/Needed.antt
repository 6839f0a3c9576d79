-- Literals that follow from the others are left out.
use Rattle.std.proofs.Common.{◌≡◌, ◌≢◌, ℕ, zero, suc, ◌+◌, ◌<◌, ◌≤◌, Bool, true, false, List, [], ◌∷◌, ◌++◌, length, nat_eq, refl, sym, ◌∙◌, ap, subst, arith, ◌⊎◌, inl, inr, ⊎_elim}
use Rattle.std.specs.Prelude.{slice_get, Some, None, All, IsTrue, not, ◌↔◌}
use Rattle.std.proofs.lemmas.Option.{slice_get_within, same_Some}
use Rattle.ras_logic.specs.declared.ids.RelId.{RelId}
use Rattle.ras_logic.specs.declared.ids.SortId.{SortId}
use Rattle.ras_logic.specs.declared.raw_db.RawDb.{RawDb}
use Rattle.ras_logic.specs.declared.values.Values.{Values}
use Rattle.ras_logic.specs.declared.problem.Problem.{Problem}
use Rattle.ras_logic.specs.declared.term.Term.{Term}
use Rattle.ras_logic.specs.declared.literal.Literal.{Literal}
use Rattle.ras_logic.specs.declared.literal.Literal.TheVariants.{Equal}
use Rattle.ras_logic.specs.declared.cube_fault.CubeFault.{CubeFault}
use Rattle.ras_logic.specs.declared.cube_fault.CubeFault.TheVariants.{Param}
use Rattle.ras_logic.specs.Schemas.{IsSort}
use Rattle.ras_logic.specs.Shapes.{ShapeParts, IsShape, IsRelation}
use Rattle.ras_logic.specs.Terms.{undef_term}
use Rattle.ras_logic.specs.CubeFaults.{IsCubeFault}
use Rattle.ras_logic.specs.Databases.{IsDatabase}
use Rattle.ras_logic.specs.Truth.{AreValues, value, holds, AllHold, Satisfies}
use Rattle.ras_logic.specs.Formulas.{Fits, LiteralFits, HasNoParam, IsCube, negated}
use Rattle.ras_logic.specs.Clashes.{FactsClash}
use Rattle.ras_logic.proofs.Clashes.{clash-none}
use Rattle.ras_logic.proofs.Elements.{from_known, contains-at}
use Rattle.ras_closure.specs.Numbered.{IsTable}
use Rattle.ras_closure.specs.Closures.{ClosureParts, IsClosure, IsFactOf}
use Rattle.ras_closure.specs.Closings.{IsClosureOf}
use Rattle.ras_closure.proofs.Cases.{below_or_same}
use Rattle.ras_closure.proofs.Laws.{consistent}
use Rattle.ras_split.specs.Among.{IsAmong}
use Rattle.ras_cubes.specs.Reduced.{IsFrom, IsLeft, Follows, IsReduced, IsReducedTo, IsReducedCube}
use Rattle.ras_split.proofs.Listed.{all-among, among-more, among-last, among-either, among-none, push-place}

-- the literals from one place on that come before another
abbrev pub IsBetween : List Literal → ℕ → ℕ → Literal → Type 0
IsBetween literals from n l = (k : ℕ) × (from ≤ k) × (k < n) × (slice_get literals k ≡ Some l)

-- the facts are old ones and those literals
abbrev pub AddsTo : List Literal → List Literal → ℕ → ℕ → List Literal → Type 0
AddsTo old literals from n new = (l : Literal) → IsAmong new l ↔ (IsAmong old l ⊎ IsBetween literals from n l)

pub adds-start : (old literals : List Literal) (from : ℕ) → AddsTo old literals from from old
adds-start old literals from l = (λ h. inl h, λ h. ⊎_elim (λ (o : IsAmong old l). o) (λ (b : IsBetween literals from from l). absurd (omega (arith, b.1, b.2))) h)

pub adds-on : (old literals : List Literal) (from n : ℕ) (new : List Literal) (x : Literal) → from ≤ n → slice_get literals n ≡ Some x → AddsTo old literals from n new
    → AddsTo old literals from (n + 1) (new ++ x ∷ [])
adds-on old literals from n new x le at adds l = (
  λ h. ⊎_elim
      (λ (b : IsAmong new l). ⊎_elim (λ (o : IsAmong old l). inl o) (λ (k : IsBetween literals from n l). inr (k.0, k.1, omega (arith, k.2), k.3)) ((adds l).0 b))
      (λ (e : l ≡ x). inr (n, le, omega arith, at ∙ ap (λ (y : Literal). Some y) (sym e))) (among-either new x l h),
  λ h. ⊎_elim (λ (o : IsAmong old l). among-more new x l ((adds l).1 (inl o))) (λ (k : IsBetween literals from (n + 1) l). between k) h,
)
  where
    between : IsBetween literals from (n + 1) l → IsAmong (new ++ x ∷ []) l
    between k =
        ⊎_elim (λ (below : k.0 < n). among-more new x l ((adds l).1 (inr (k.0, k.1, below, k.3))))
        (λ (here : k.0 ≡ n).
        subst (IsAmong (new ++ x ∷ [])) (same_Some x l (sym at ∙ subst (λ (m : ℕ). slice_get literals m ≡ Some l) here k.3)) (among-last new x)) (below_or_same k.0 n k.2)

pub adds-end : (old literals : List Literal) (from n : ℕ) (new : List Literal) → length literals ≤ n → AddsTo old literals from n new
    → (l : Literal) → IsAmong new l ↔ (IsAmong old l ⊎ IsFrom literals from l)
adds-end old literals from n new ended adds l = (
  λ h. ⊎_elim (λ (o : IsAmong old l). inl o) (λ (k : IsBetween literals from n l). inr (k.0, k.1, k.3)) ((adds l).0 h),
  λ h. ⊎_elim (λ (o : IsAmong old l). (adds l).1 (inl o))
      (λ (k : IsFrom literals from l). let lt = slice_get_within literals k.0 l k.2 in (adds l).1 (inr (k.0, k.1, omega (arith, lt, ended), k.2))) h,
)

negated-fits : (shape : ShapeParts) (p : Problem) (l : Literal) → LiteralFits shape p.rows p.params l → LiteralFits shape p.rows p.params (negated l)
negated-fits shape p (Equal left right same) fits = fits

negated-holds : (d : RawDb) (v : Values) (l : Literal) → holds d v l ≡ false → IsTrue (holds d v (negated l))
negated-holds d v (Equal left right true) h = rw h
negated-holds d v (Equal left right false) h = twice (nat_eq (value d v left) (value d v right)) h
  where
    twice : (b : Bool) → not b ≡ false → IsTrue b
    twice true h = refl
    twice false h = cc

-- a problem is its parts
abbrev pub problem_of : List RelId → List SortId → List Literal → Problem
problem_of rows params literals = record { rows = rows; params = params; literals = literals }

pub problem-same : (r r2 : List RelId) (q q2 : List SortId) (l l2 : List Literal) → r ≡ r2 → q ≡ q2 → l ≡ l2 → problem_of r q l ≡ problem_of r2 q2 l2
problem-same r r2 q q2 l l2 rows params literals =
    ap (λ (x : List RelId). problem_of x q l) rows ∙ ap (λ (x : List SortId). problem_of r2 x l) params ∙ ap (λ (x : List Literal). problem_of r2 q2 x) literals

-- a closure that has no clash has no literal with its opposite
no-both : (c : ClosureParts) → IsTable c.table → IsClosure c → c.clash ≡ None → (l : Literal) → IsFactOf c l → IsFactOf c (negated l) → ⊥
no-both c table closure none (Equal s t true) same apart =
    (consistent c table closure none).apart same.0 same.1 s t same.2 same.3 apart (closure.closed.stated same.0 same.1 s t same.2 same.3 same)
no-both c table closure none (Equal s t false) apart same =
    (consistent c table closure none).apart same.0 same.1 s t same.2 same.3 apart (closure.closed.stated same.0 same.1 s t same.2 same.3 same)

module _ (shape : ShapeParts) (p : Problem) (kept : List Literal) (place : ℕ) (x : Literal) (at : slice_get p.literals place ≡ Some x) (first second : List Literal)
    (one : (l : Literal) → IsAmong first l ↔ (IsAmong [] l ⊎ IsFrom kept 0 l))
    (two : (l : Literal) → IsAmong second l ↔ (IsAmong first l ⊎ IsFrom p.literals (place + 1) l)) where
  -- what is left, and the opposite of the literal
  abbrev pub against : Problem
  against = record { rows = p.rows; params = p.params; literals = second ++ negated x ∷ [] }

  left-of : (l : Literal) → IsAmong second l → IsLeft kept p.literals (place + 1) l
  left-of l h =
      ⊎_elim
      (λ (f : IsAmong first l).
      ⊎_elim (λ (n : IsAmong [] l). absurd (among-none l n)) (λ (k : IsFrom kept 0 l). inl (record { number = k.0; known = k.2 })) ((one l).0 f))
      (λ (b : IsFrom p.literals (place + 1) l). inr b) ((two l).0 h)

  in-second : (l : Literal) → IsAmong kept l → IsAmong second l
  in-second l h = (two l).1 (inl ((one l).1 (inr (h.number, omega arith, h.known))))

  pub against-fits : Fits shape p → ((l : Literal) → IsAmong kept l → IsAmong p.literals l) → Fits shape against
  against-fits fits only = record {
    rows = fits.rows;
    params = fits.params;
    literals = all-among (LiteralFits shape p.rows p.params) against.literals
        (λ l h. ⊎_elim (λ (b : IsAmong second l). of_left l (left-of l b))
        (λ (e : l ≡ negated x). subst (LiteralFits shape p.rows p.params) (sym e) (negated-fits shape p x (from_known (LiteralFits shape p.rows p.params) p.literals fits.literals place x at)))
        (among-either second (negated x) l h));
  }
    where
      of_left : (l : Literal) → IsLeft kept p.literals (place + 1) l → LiteralFits shape p.rows p.params l
      of_left l (inl h) = let a = only l h in from_known (LiteralFits shape p.rows p.params) p.literals fits.literals a.number l a.known
      of_left l (inr h) = from_known (LiteralFits shape p.rows p.params) p.literals fits.literals h.0 l h.2

  -- where that clashes, the literal follows
  pub clash-follows : IsShape shape → Fits shape against → FactsClash shape.schema against.literals → Follows shape p (IsLeft kept p.literals (place + 1)) x
  clash-follows ok fits clash d v db values hold = decide (holds d v x) refl
    where
      decide : (b : Bool) → holds d v x ≡ b → IsTrue (holds d v x)
      decide true e = e
      decide false e =
          absurd (clash-none shape d db p.rows p.params v values ok.schema against.literals fits.literals
          (all-among (λ (l : Literal). IsTrue (holds d v l)) against.literals
          (λ l h. ⊎_elim (λ (b : IsAmong second l). hold l (left-of l b))
          (λ (q : l ≡ negated x). subst (λ (y : Literal). IsTrue (holds d v y)) (sym q) (negated-holds d v x e)) (among-either second (negated x) l h))) clash)

  -- where that does not clash, the literal is not among the kept ones
  pub open-different : (c : ClosureParts) → IsTable c.table → IsClosure c → IsClosureOf shape against c → IsAmong kept x → ⊥
  open-different c table closure of h =
      let same = among-more second (negated x) x (in-second x h) in
      let opposite = among-last second (negated x) in
      no-both c table closure of.no_clash x ((of.asserted x).1 (contains-at against.literals same.number x same.known))
      ((of.asserted (negated x)).1 (contains-at against.literals opposite.number (negated x) opposite.known))

-- the literal at a place
pub at-place : (literals : List Literal) (place : ℕ) → place < length literals → (l : Literal) × (slice_get literals place ≡ Some l)
at-place [] place lt = absurd (omega (arith, lt))
at-place (l ∷ literals) zero lt = (l, refl)
at-place (l ∷ literals) (suc place) lt = at-place literals place (omega (arith, lt))

module _ (shape : ShapeParts) (p : Problem) where
  pub reduced-start : IsReducedTo shape p 0 []
  reduced-start = record {
    only = λ l h. absurd (among-none l h);
    same = λ l h d v db values hold. hold l (inr (h.number, omega arith, h.known));
    once = λ j k l at_j at_k. absurd (among-none l (record { number = j; known = at_j }));
  }

  module _ (n : ℕ) (kept : List Literal) (so_far : IsReducedTo shape p n kept) (x : Literal) (at : slice_get p.literals n ≡ Some x) where
    -- what is left before the literal is the literal, or is left behind it
    before : (l : Literal) → IsLeft kept p.literals n l → IsLeft kept p.literals (n + 1) l ⊎ (l ≡ x)
    before l (inl h) = inl (inl h)
    before l (inr h) =
        ⊎_elim (λ (lt : n < h.0). inl (inr (h.0, omega (arith, lt), h.2)))
        (λ (e : h.0 ≡ n). inr (same_Some l x (sym (subst (λ (m : ℕ). slice_get p.literals m ≡ Some l) e h.2) ∙ at))) (above_or n h.0 h.1)
      where
        above_or : (a b : ℕ) → a ≤ b → (a < b) ⊎ (b ≡ a)
        above_or a b le = grind arith

    pub reduced-left_out : Follows shape p (IsLeft kept p.literals (n + 1)) x → IsReducedTo shape p (n + 1) kept
    reduced-left_out follows = record {
      only = so_far.only;
      same = λ l h d v db values hold.
          so_far.same l h d v db values
          (λ m left. ⊎_elim (λ (a : IsLeft kept p.literals (n + 1) m). hold m a) (λ (e : m ≡ x). subst (λ (y : Literal). IsTrue (holds d v y)) (sym e) (follows d v db values hold)) (before m left));
      once = so_far.once;
    }

    pub reduced-kept : (IsAmong kept x → ⊥) → IsReducedTo shape p (n + 1) (kept ++ x ∷ [])
    reduced-kept different = record {
      only = λ l h. ⊎_elim (λ (b : IsAmong kept l). so_far.only l b) (λ (e : l ≡ x). record { number = n; known = at ∙ ap (λ (y : Literal). Some y) (sym e) }) (among-either kept x l h);
      same = λ l h d v db values hold.
          so_far.same l h d v db values
          (λ m left. ⊎_elim (λ (a : IsLeft kept p.literals (n + 1) m). hold m (more m a))
          (λ (e : m ≡ x). hold m (inl (subst (IsAmong (kept ++ x ∷ [])) (sym e) (among-last kept x)))) (before m left));
      once = λ j k l at_j at_k.
          ⊎_elim
          (λ (in_j : slice_get kept j ≡ Some l).
          ⊎_elim (λ (in_k : slice_get kept k ≡ Some l). so_far.once j k l in_j in_k)
          (λ (h : (k ≡ length kept) × (l ≡ x)). absurd (different (record { number = j; known = in_j ∙ ap (λ (y : Literal). Some y) h.1 }))) (push-place kept x l k at_k))
          (λ (g : (j ≡ length kept) × (l ≡ x)).
          ⊎_elim (λ (in_k : slice_get kept k ≡ Some l). absurd (different (record { number = k; known = in_k ∙ ap (λ (y : Literal). Some y) g.1 })))
          (λ (h : (k ≡ length kept) × (l ≡ x)). g.0 ∙ sym h.0) (push-place kept x l k at_k))
          (push-place kept x l j at_j);
    }
      where
        more : (m : Literal) → IsLeft kept p.literals (n + 1) m → IsLeft (kept ++ x ∷ []) p.literals (n + 1) m
        more m (inl h) = inl (among-more kept x m h)
        more m (inr h) = inr h

  pub reduced-end : (n : ℕ) (kept : List Literal) → length p.literals ≤ n → IsReducedTo shape p n kept → IsReduced shape p kept
  reduced-end n kept ended so_far = record {
    only = so_far.only;
    same = λ l h d v db values hold. so_far.same l h d v db values (λ m left. hold m (in_kept m left));
    once = so_far.once;
  }
    where
      in_kept : (m : Literal) → IsLeft kept p.literals n m → IsAmong kept m
      in_kept m (inl h) = h
      in_kept m (inr h) = let lt = slice_get_within p.literals h.0 m h.2 in absurd (omega (arith, lt, ended, h.1))

  -- none of them names a data parameter where the problem's literals name none
  pub reduced-free : IsCube p → (literals : List Literal) → IsReduced shape p literals → All HasNoParam literals
  reduced-free cube literals reduced =
      all-among HasNoParam literals (λ l h. let a = reduced.only l h in from_known HasNoParam p.literals cube.unnamed a.number l a.known)

-- literals without a data parameter have no first one with one
pub no-fault : (literals : List Literal) → All HasNoParam literals → (q : CubeFault) → IsCubeFault literals q → ⊥
no-fault literals free (Param k) bad =
    let d : Literal = Equal (undef_term (record { n = 0 })) (undef_term (record { n = 0 })) true in bad.bad d (free k d bad.within)

-- a cube with the literals that are left of another
module _ (shape : ShapeParts) (full q : Problem) (cube : IsCube full) (is : IsReducedCube shape full q) where
  at-full : (l : Literal) → IsAmong q.literals l → (k : ℕ) × (slice_get full.literals k ≡ Some l)
  at-full l h = let a = is.reduced.only l h in (a.number, a.known)

  pub reduced-is_cube : IsCube q
  reduced-is_cube = record {
    none = is.params;
    unnamed = all-among HasNoParam q.literals (λ l h. let a = at-full l h in from_known HasNoParam full.literals cube.unnamed a.0 l a.1);
  }

  same-params : q.params ≡ full.params
  same-params = is.params ∙ sym cube.none

  fits-here : (l : Literal) → LiteralFits shape full.rows full.params l → LiteralFits shape q.rows q.params l
  fits-here l h =
      subst (λ (s : List SortId). LiteralFits shape q.rows s l) (sym same-params) (subst (λ (r : List RelId). LiteralFits shape r full.params l) (sym is.rows) h)

  pub reduced-fits : Fits shape full → Fits shape q
  reduced-fits fits = record {
    rows = subst (λ (r : List RelId). All (IsRelation shape) r) (sym is.rows) fits.rows;
    params = subst (λ (s : List SortId). All (IsSort shape.schema.sorts) s) (sym same-params) fits.params;
    literals = all-among (LiteralFits shape q.rows q.params) q.literals
        (λ l h. let a = at-full l h in fits-here l (from_known (LiteralFits shape full.rows full.params) full.literals fits.literals a.0 l a.1));
  }

  module _ (d : RawDb) (v : Values) where
    values-full : AreValues shape d q.rows q.params v → AreValues shape d full.rows full.params v
    values-full values = subst (λ (s : List SortId). AreValues shape d full.rows s v) same-params (subst (λ (r : List RelId). AreValues shape d r q.params v) is.rows values)

    pub reduced-satisfied : Satisfies shape d v full → Satisfies shape d v q
    reduced-satisfied s = record {
      values = subst (λ (t : List SortId). AreValues shape d q.rows t v) (sym same-params) (subst (λ (r : List RelId). AreValues shape d r full.params v) (sym is.rows) s.values);
      literals = all-among (λ (l : Literal). IsTrue (holds d v l)) q.literals
          (λ l h. let a = at-full l h in from_known (λ (m : Literal). IsTrue (holds d v m)) full.literals s.literals a.0 l a.1);
    }

    pub full-satisfied : IsDatabase shape.schema d → Satisfies shape d v q → Satisfies shape d v full
    full-satisfied db s = record {
      values = values-full s.values;
      literals = all-among (λ (l : Literal). IsTrue (holds d v l)) full.literals
          (λ l h. is.reduced.same l h d v db (values-full s.values) (λ m at. from_known (λ (n : Literal). IsTrue (holds d v n)) q.literals s.literals at.number m at.known));
    }
