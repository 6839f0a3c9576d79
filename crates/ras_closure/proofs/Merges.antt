-- One step of the saturation, and its end.
use Rattle.std.proofs.Common.{◌≡◌, ◌≢◌, ℕ, zero, suc, ◌+◌, ◌-◌, ◌<◌, ◌≤◌, true, false, List, [], ◌∷◌, ◌++◌, length, nat_eq, cond, refl, sym, ◌∙◌, ap, subst, arith, ◌⊎◌, inl, inr, ⊎_elim}
use Rattle.std.specs.Prelude.{slice_get, Option, Some, None, sum, min, max, MatchOption}
use Rattle.std.proofs.lemmas.Option.{slice_get_within, slice_get-get_or}
use Rattle.std.proofs.lemmas.List.Sums.{sum_by-cons}
use Rattle.ras_logic.specs.Schemas.{SchemaParts, HasSorts}
use Rattle.ras_logic.specs.declared.ids.SortId.{SortId}
use Rattle.ras_logic.specs.declared.ids.ConstId.{ConstId}
use Rattle.ras_logic.specs.declared.ids.FunId.{FunId}
use Rattle.ras_logic.specs.declared.term.Base as Kind
use Rattle.ras_logic.specs.declared.term.Term.{Term}
use Rattle.ras_logic.specs.declared.literal.Literal.{Literal}
use Rattle.ras_logic.specs.declared.literal.Literal.TheVariants.{Equal}
use Rattle.ras_logic.specs.Terms.{sort_of, constant_term, undef_term, image_term}
use Rattle.ras_logic.proofs.TermSorts.{undef-sort}
use Rattle.ras_closure.specs.declared.link.Link.{Link}
use Rattle.ras_closure.specs.declared.link.Link.TheVariants.{Base, Image}
use Rattle.ras_logic.specs.Clashes.{Together, Clash, symmetric, transitive, stated, same_images, image_of_undef, only_undef, stated_apart, two_constants, constant_undef}
use Rattle.ras_closure.specs.Classes.{class, AreClosed, Coarsens, relabelled}
use Rattle.ras_closure.specs.Numbered.{IsAt, TableParts, IsImageLink, IsTable, rigid_count}
use Rattle.ras_closure.specs.Assertions.{MarkParts, IsAsserted, is_marked, FactsFit}
use Rattle.ras_closure.specs.Rules.{Forced, IsSaturated}
use Rattle.ras_closure.specs.Rules.{by_images, by_undef, by_total}
use Rattle.ras_closure.specs.Closures.{asserted_apart, constants, constant_and_undef, undef_and_constant}
use Rattle.ras_closure.specs.Partitions.{AreBelow, ArePartial, AreTogether}
use Rattle.ras_closure.specs.Verdicts.{AreClashing, AreUnbroken}
use Rattle.ras_closure.specs.Merging.{MayMerge, AreConflicting}
use Rattle.ras_closure.specs.declared.clash.Clash as Named
use Rattle.ras_closure.specs.Closures.{Conflict}
use Rattle.ras_logic.proofs.Elements.{from_known}
use Rattle.ras_logic.proofs.SameSorts.{HasSort, sort-within, term-sorted, together-sorted}
use Rattle.ras_closure.proofs.Cases.{below_or, none_some}

pub coarsens-through : (old mid new : List ℕ) → length mid ≡ length old → Coarsens old mid → Coarsens mid new → Coarsens old new
coarsens-through old mid new long first second i j lt_i lt_j e = second i j (rw long lt_i) (rw long lt_j) (first i j lt_i lt_j e)

-- the term of a number
pub term_at : (terms : List Term) (i : ℕ) → i < length terms → (t : Term) × IsAt terms i t
term_at [] i lt = absurd (omega (arith, lt))
term_at (t ∷ ts) zero lt = (t, refl)
term_at (t ∷ ts) (suc i) lt = term_at ts i (omega arith)

class-relabelled : (from to : ℕ) (classes : List ℕ) (i : ℕ) → i < length classes → class (relabelled from to classes) i ≡ cond (nat_eq (class classes i) from) to (class classes i)
class-relabelled from to [] i lt = absurd (omega (arith, lt))
class-relabelled from to (c ∷ cs) zero lt = refl
class-relabelled from to (c ∷ cs) (suc i) lt = class-relabelled from to cs i (omega arith)

-- what an element's new class is
relabel_cases : (from to c : ℕ) → ((c ≡ from) × (cond (nat_eq c from) to c ≡ to)) ⊎ ((c ≢ from) × (cond (nat_eq c from) to c ≡ c))
relabel_cases from to c = grind arith

sum-relabelled-le : (from to : ℕ) (classes : List ℕ) → to < from → sum (relabelled from to classes) ≤ sum classes
sum-relabelled-le from to [] lt = omega arith
sum-relabelled-le from to (c ∷ cs) lt =
    let rest = sum-relabelled-le from to cs lt in
    let new = sum_by-cons (λ (x : ℕ). x) (cond (nat_eq c from) to c) (relabelled from to cs) in
    let old = sum_by-cons (λ (x : ℕ). x) c cs in
    ⊎_elim (λ (h : (c ≡ from) × (cond (nat_eq c from) to c ≡ to)). omega (arith, rest, new, old, h.0, h.1))
    (λ (h : (c ≢ from) × (cond (nat_eq c from) to c ≡ c)). omega (arith, rest, new, old, h.1)) (relabel_cases from to c)

-- relabelling makes the sum of the classes smaller
pub sum-relabelled : (from to : ℕ) (classes : List ℕ) (i : ℕ) → i < length classes → class classes i ≡ from → to < from → sum (relabelled from to classes) < sum classes
sum-relabelled from to [] i lt e less = absurd (omega (arith, lt))
sum-relabelled from to (c ∷ cs) zero lt e less =
    let rest = sum-relabelled-le from to cs less in
    let new = sum_by-cons (λ (x : ℕ). x) (cond (nat_eq c from) to c) (relabelled from to cs) in
    let old = sum_by-cons (λ (x : ℕ). x) c cs in
    ⊎_elim (λ (h : (c ≡ from) × (cond (nat_eq c from) to c ≡ to)). omega (arith, rest, new, old, h.0, h.1))
    (λ (h : (c ≢ from) × (cond (nat_eq c from) to c ≡ c)). absurd (h.0 e)) (relabel_cases from to c)
sum-relabelled from to (c ∷ cs) (suc i) lt e less =
    let rest = sum-relabelled from to cs i (omega arith) e less in
    let new = sum_by-cons (λ (x : ℕ). x) (cond (nat_eq c from) to c) (relabelled from to cs) in
    let old = sum_by-cons (λ (x : ℕ). x) c cs in
    ⊎_elim (λ (h : (c ≡ from) × (cond (nat_eq c from) to c ≡ to)). omega (arith, rest, new, old, h.0, h.1))
    (λ (h : (c ≢ from) × (cond (nat_eq c from) to c ≡ c)). omega (arith, rest, new, old, h.1)) (relabel_cases from to c)

snoc-same : (xs ys : List FunId) (x y : FunId) → xs ++ x ∷ [] ≡ ys ++ y ∷ [] → (xs ≡ ys) × (x ≡ y)
snoc-same [] [] x y e = (refl, cc)
snoc-same [] (z ∷ []) x y e = absurd (cc)
snoc-same [] (z ∷ w ∷ ws) x y e = absurd (cc)
snoc-same (z ∷ []) [] x y e = absurd (cc)
snoc-same (z ∷ w ∷ ws) [] x y e = absurd (cc)
snoc-same (v ∷ vs) (w ∷ ws) x y e =
    let tail : vs ++ x ∷ [] ≡ ws ++ y ∷ [] = cc in
    let r = snoc-same vs ws x y tail in
    (cc (r.0), r.1)

pub no_snoc : (xs : List FunId) (x : FunId) → xs ++ x ∷ [] ≡ [] → ⊥
no_snoc [] x e = cc
no_snoc (y ∷ ys) x e = cc

image-same : (s t : Term) (f g : FunId) → image_term s f ≡ image_term t g → (s ≡ t) × (f ≡ g)
image-same s t f g e =
    let paths : s.path ++ f ∷ [] ≡ t.path ++ g ∷ [] = ap (λ (u : Term). u.path) e in
    let r = snoc-same s.path t.path f g paths in (
      ap (λ (p : List FunId). let u : Term = record { base = s.base; path = p } in u) r.0
          ∙ ap (λ (b : Kind.Base). let u : Term = record { base = b; path = t.path } in u) (ap (λ (u : Term). u.base) e),
      r.1,
    )

pub at-same : (terms : List Term) (i : ℕ) (s t : Term) → IsAt terms i s → IsAt terms i t → s ≡ t
at-same terms i s t a b = cc

module _ (t : TableParts) (table : IsTable t) where
  -- the link of an image
  pub link-of : (i p : ℕ) (s : Term) (f : FunId) → IsAt t.terms p s → IsAt t.terms i (image_term s f) → IsImageLink t.links i p f
  link-of i p s f at_p at_i = go (slice_get t.links i) refl
    where
      go : (o : Option Link) → slice_get t.links i ≡ o → IsImageLink t.links i p f
      go None e = absurd (
          let lt = slice_get_within t.terms i (image_term s f) at_i in
          let some = slice_get-get_or t.links i Base (rw table.links.as_many lt) in cc)
      go (Some Base) e = absurd (no_snoc s.path f (table.links.bases i (image_term s f) at_i e))
      go (Some (Image of g)) e =
          let u = term_at t.terms of (table.links.of_terms i of g e) in
          let same = image-same u.0 s g f (at-same t.terms i (image_term u.0 g) (image_term s f) (table.links.images i of g u.0 e u.1) at_i) in
          let number : of ≡ p = table.terms.different of p s (subst (λ (w : Term). IsAt t.terms of w) same.0 u.1) at_p in
          rw (← number, ← same.1) e

  -- undef or a constant
  pub rigid_cases : (k : ℕ) → k < rigid_count t → ((k < t.shape.schema.sorts) × IsAt t.terms k (undef_term (record { n = k })))
      ⊎ ((c : ConstId) × (c.n < length t.shape.schema.constants) × (k ≡ t.shape.schema.sorts + c.n) × IsAt t.terms k (constant_term c))
  rigid_cases k lt = ⊎_elim (λ (h : k < t.shape.schema.sorts). inl (h, table.terms.undefs (record { n = k }) h)) (λ (h : t.shape.schema.sorts ≤ k). inr (
      let c : ConstId = record { n = k - t.shape.schema.sorts } in
      let small : c.n < length t.shape.schema.constants = omega (arith, lt, h) in
      let e : t.shape.schema.sorts + c.n ≡ k = omega (arith, h) in
      (c, small, sym e, subst (λ (m : ℕ). IsAt t.terms m (constant_term c)) e (table.terms.constants c small)))) (below_or k t.shape.schema.sorts)

  pub rigid-within : (k : ℕ) → k < rigid_count t → k < length t.terms
  rigid-within k lt = ⊎_elim (λ (h : (k < t.shape.schema.sorts) × IsAt t.terms k (undef_term (record { n = k }))). slice_get_within t.terms k (undef_term (record { n = k })) h.1)
      (λ (h : (c : ConstId) × (c.n < length t.shape.schema.constants) × (k ≡ t.shape.schema.sorts + c.n) × IsAt t.terms k (constant_term c)). slice_get_within t.terms k (constant_term h.0) h.3)
      (rigid_cases k lt)

-- a term of a table has a sort
pub table-sorted : (t : TableParts) → IsTable t → (i : ℕ) (s : Term) → IsAt t.terms i s → HasSort t.shape t.problem.rows t.problem.params s
table-sorted t table i s at = term-sorted t.shape t.problem.rows t.problem.params t.problem.literals table.fits.literals (table.terms.known i s at)

-- the sort of a term exists
pub sort-exists : (t : TableParts) → IsTable t → (s : Term) (u : SortId) → sort_of t.shape t.problem.rows t.problem.params s ≡ Some u → u.n < t.shape.schema.sorts
sort-exists t table s u h = sort-within t.shape t.problem.rows t.problem.params table.shape.schema table.shape.vars table.shape.columns table.fits.params s u h

pub not_unsorted : (t : TableParts) → IsTable t → (i : ℕ) (s : Term) → IsAt t.terms i s → None ≡ sort_of t.shape t.problem.rows t.problem.params s → ⊥
not_unsorted t table i s at e = let h = table-sorted t table i s at in none_some (e ∙ h.is_sort)

module _ (t : TableParts) (table : IsTable t) (marks : MarkParts) (classes : List ℕ) (partial : ArePartial t marks classes) where
  pub forced-together : (i j : ℕ) → Forced t classes i j → AreTogether t marks i j
  forced-together i j (by_images a b of of2 f la lb e) s u at_s at_u =
      let s0 = term_at t.terms of (table.links.of_terms a of f la) in
      let u0 = term_at t.terms of2 (table.links.of_terms b of2 f lb) in
      let at_a = table.links.images a of f s0.0 la s0.1 in
      let at_b = table.links.images b of2 f u0.0 lb u0.1 in
      let one : s ≡ image_term s0.0 f = at-same t.terms a s (image_term s0.0 f) at_s at_a in
      let two : u ≡ image_term u0.0 f = at-same t.terms b u (image_term u0.0 f) at_u at_b in
      rw (one, two) (same_images s0.0 u0.0 f (partial.sound of of2 s0.0 u0.0 s0.1 u0.1 e) (table.terms.known a (image_term s0.0 f) at_a) (table.terms.known b (image_term u0.0 f) at_b))
  forced-together i j (by_undef a of f d la known e) s u at_s at_u =
      let s0 = term_at t.terms of (table.links.of_terms a of f la) in
      let at_a = table.links.images a of f s0.0 la s0.1 in
      let source : d.source.n < t.shape.schema.sorts = (from_known (HasSorts t.shape.schema.sorts) t.shape.schema.functions table.shape.schema.functions f.n d known).0 in
      let target : d.target.n < t.shape.schema.sorts = (from_known (HasSorts t.shape.schema.sorts) t.shape.schema.functions table.shape.schema.functions f.n d known).1 in
      let one : s ≡ image_term s0.0 f = at-same t.terms a s (image_term s0.0 f) at_s at_a in
      let two : u ≡ undef_term d.target = at-same t.terms d.target.n u (undef_term d.target) at_u (table.terms.undefs d.target target) in
      rw (one, two) (image_of_undef s0.0 f d known (partial.sound of d.source.n s0.0 (undef_term d.source) s0.1 (table.terms.undefs d.source source) e) (table.terms.known a (image_term s0.0 f) at_a))
  forced-together i j (by_total a of f d la known total e) s u at_s at_u =
      let at_a = table.links.images a of f s la at_s in
      let source : d.source.n < t.shape.schema.sorts = (from_known (HasSorts t.shape.schema.sorts) t.shape.schema.functions table.shape.schema.functions f.n d known).0 in
      let target : d.target.n < t.shape.schema.sorts = (from_known (HasSorts t.shape.schema.sorts) t.shape.schema.functions table.shape.schema.functions f.n d known).1 in
      let two : u ≡ undef_term d.source = at-same t.terms d.source.n u (undef_term d.source) at_u (table.terms.undefs d.source source) in
      rw two (only_undef s f d known total (partial.sound a d.target.n (image_term s f) (undef_term d.target) at_a (table.terms.undefs d.target target) e))

  within : (i : ℕ) (s : Term) → IsAt t.terms i s → i < length classes
  within i s at = rw partial.as_many (slice_get_within t.terms i s at)

  pub below : (i : ℕ) → i < length t.terms → class classes i < length t.terms
  below i lt = omega (arith, lt, partial.low i lt)

  turned : (a b : ℕ) → AreTogether t marks a b → AreTogether t marks b a
  turned a b h s u at_s at_u = symmetric u s (h u s at_u at_s)

  -- terms of the classes of two terms that must be the same must be too
  pub class-together : (a b i j : ℕ) → a < length t.terms → b < length t.terms → AreTogether t marks a b → class classes i ≡ class classes a → class classes j ≡ class classes b
      → AreTogether t marks i j
  class-together a b i j lt_a lt_b together one two s u at_s at_u =
      let ta = term_at t.terms a lt_a in
      let tb = term_at t.terms b lt_b in
      transitive s ta.0 u (partial.sound i a s ta.0 at_s ta.1 one) (transitive ta.0 tb.0 u (together ta.0 tb.0 ta.1 tb.1) (partial.sound b j tb.0 u tb.1 at_u (sym two)))

  module _ (a b to from : ℕ) (lt_a : a < length t.terms) (lt_b : b < length t.terms) (together : AreTogether t marks a b) (class_a : class classes a ≡ to) (class_b : class classes b ≡ from)
      (less : to < from) where
    new-class : (i : ℕ) → i < length t.terms
        → ((class classes i ≡ from) × (class (relabelled from to classes) i ≡ to)) ⊎ ((class classes i ≢ from) × (class (relabelled from to classes) i ≡ class classes i))
    new-class i lt =
        let e = class-relabelled from to classes i (rw partial.as_many lt) in
        ⊎_elim (λ (h : (class classes i ≡ from) × (cond (nat_eq (class classes i) from) to (class classes i) ≡ to)). inl (h.0, e ∙ h.1))
        (λ (h : (class classes i ≢ from) × (cond (nat_eq (class classes i) from) to (class classes i) ≡ class classes i)). inr (h.0, e ∙ h.1))
        (relabel_cases from to (class classes i))

    -- terms of one new class are of one old class, or of the two that were merged
    old_classes : (i j : ℕ) → i < length t.terms → j < length t.terms → class (relabelled from to classes) i ≡ class (relabelled from to classes) j
        → (class classes i ≡ class classes j) ⊎ (((class classes i ≡ to) × (class classes j ≡ from)) ⊎ ((class classes i ≡ from) × (class classes j ≡ to)))
    old_classes i j lt_i lt_j e = go (new-class i lt_i) (new-class j lt_j)
      where
        go : ((class classes i ≡ from) × (class (relabelled from to classes) i ≡ to)) ⊎ ((class classes i ≢ from) × (class (relabelled from to classes) i ≡ class classes i))
            → ((class classes j ≡ from) × (class (relabelled from to classes) j ≡ to)) ⊎ ((class classes j ≢ from) × (class (relabelled from to classes) j ≡ class classes j))
            → (class classes i ≡ class classes j) ⊎ (((class classes i ≡ to) × (class classes j ≡ from)) ⊎ ((class classes i ≡ from) × (class classes j ≡ to)))
        go (inl h) (inl g) = inl (h.0 ∙ sym g.0)
        go (inl h) (inr g) = inr (inr (h.0, sym g.1 ∙ sym e ∙ h.1))
        go (inr h) (inl g) = inr (inl (sym h.1 ∙ e ∙ g.1, g.0))
        go (inr h) (inr g) = inl (sym h.1 ∙ e ∙ g.1)

    to-stays : class (relabelled from to classes) to ≡ to
    to-stays =
        let lt : to < length t.terms = rw (← class_a) (below a lt_a) in
        let own : class classes to ≡ to = rw class_a at (partial.own a lt_a) in
        ⊎_elim (λ (h : (class classes to ≡ from) × (class (relabelled from to classes) to ≡ to)). h.1)
        (λ (h : (class classes to ≢ from) × (class (relabelled from to classes) to ≡ class classes to)). h.1 ∙ own) (new-class to lt)

    pub merged-partial : ArePartial t marks (relabelled from to classes)
    merged-partial = record {
      as_many = length-relabelled from to classes ∙ partial.as_many;
      low = λ i lt.
          let old = partial.low i lt in
          ⊎_elim (λ (h : (class classes i ≡ from) × (class (relabelled from to classes) i ≡ to)). omega (arith, old, h.0, h.1, less))
          (λ (h : (class classes i ≢ from) × (class (relabelled from to classes) i ≡ class classes i)). omega (arith, old, h.1)) (new-class i lt);
      own = λ i lt.
          let small = below i lt in
          ⊎_elim (λ (h : (class classes i ≡ from) × (class (relabelled from to classes) i ≡ to)). ap (class (relabelled from to classes)) h.1 ∙ to-stays ∙ sym h.1)
          (λ (h : (class classes i ≢ from) × (class (relabelled from to classes) i ≡ class classes i)).
          ap (class (relabelled from to classes)) h.1
          ∙ ⊎_elim (λ (g : (class classes (class classes i) ≡ from) × (class (relabelled from to classes) (class classes i) ≡ to)). absurd (h.0 (sym (partial.own i lt) ∙ g.0)))
          (λ (g : (class classes (class classes i) ≢ from) × (class (relabelled from to classes) (class classes i) ≡ class classes (class classes i))). g.1 ∙ partial.own i lt ∙ sym h.1)
          (new-class (class classes i) small))
          (new-class i lt);
      sound = λ i j s u at_i at_j e.
          ⊎_elim (λ (h : class classes i ≡ class classes j). partial.sound i j s u at_i at_j h)
          (λ (h : ((class classes i ≡ to) × (class classes j ≡ from)) ⊎ ((class classes i ≡ from) × (class classes j ≡ to))).
          ⊎_elim (λ (g : (class classes i ≡ to) × (class classes j ≡ from)). class-together a b i j lt_a lt_b together (g.0 ∙ sym class_a) (g.1 ∙ sym class_b) s u at_i at_j)
          (λ (g : (class classes i ≡ from) × (class classes j ≡ to)). class-together b a i j lt_b lt_a (turned a b together) (g.0 ∙ sym class_b) (g.1 ∙ sym class_a) s u at_i at_j) h)
          (old_classes i j (slice_get_within t.terms i s at_i) (slice_get_within t.terms j u at_j) e);
    }
      where
        length-relabelled : (from to : ℕ) (cs : List ℕ) → length (relabelled from to cs) ≡ length cs
        length-relabelled from to [] = refl
        length-relabelled from to (c ∷ cs) = ap suc (length-relabelled from to cs)

    -- classes that may be merged stay unbroken
    pub merged-unbroken : marks.width ≡ length t.terms → MayMerge t marks classes to from → AreUnbroken t marks classes → AreUnbroken t marks (relabelled from to classes)
    merged-unbroken width may unbroken = record {
      rigid = λ k lt.
          let old = unbroken.rigid k lt in
          ⊎_elim (λ (h : (class classes k ≡ from) × (class (relabelled from to classes) k ≡ to)). absurd (omega (arith, lt, old, h.0, may.above)))
          (λ (h : (class classes k ≢ from) × (class (relabelled from to classes) k ≡ class classes k)). h.1 ∙ old) (new-class k (rigid-within t table k lt));
      apart = λ i j lt_i lt_j marked e.
          ⊎_elim (λ (h : class classes i ≡ class classes j). unbroken.apart i j lt_i lt_j marked h)
          (λ (h : ((class classes i ≡ to) × (class classes j ≡ from)) ⊎ ((class classes i ≡ from) × (class classes j ≡ to))).
          ⊎_elim (λ (g : (class classes i ≡ to) × (class classes j ≡ from)). (may.no_disequality i lt_i g.0 j lt_j g.1).forth marked)
          (λ (g : (class classes i ≡ from) × (class classes j ≡ to)). (may.no_disequality j lt_j g.1 i lt_i g.0).back marked) h)
          (old_classes i j (rw (← width) lt_i) (rw (← width) lt_j) e);
    }

    -- what speaks against one class is a clash
    pub find_conflict-clash : marks.width ≡ length t.terms → (q : Named.Clash) → AreConflicting t marks classes to from q → AreClashing t marks q.left.n q.right.n
    find_conflict-clash width q (inl h) =
        let lt_to : to < length t.terms = rigid-within t table to (omega (arith, less, h.0)) in
        let lt_from : from < length t.terms = rigid-within t table from h.0 in
        let own_to : class classes to ≡ to = rw class_a at (partial.own a lt_a) in
        let own_from : class classes from ≡ from = rw class_b at (partial.own b lt_b) in
        record {
          left = rw h.1 lt_to;
          right = rw h.2 lt_from;
          together = class-together a b q.left.n q.right.n lt_a lt_b together (rw h.1 (own_to ∙ sym class_a)) (rw h.2 (own_from ∙ sym class_b));
          reason = inr (omega (arith, less, h.0, h.1), omega (arith, h.0, h.2), (λ (e : q.left.n ≡ q.right.n). omega (arith, less, h.1, h.2, e)));
        }
    find_conflict-clash width q (inr h) = record {
      left = rw (← width) h.left;
      right = rw (← width) h.right;
      together = ⊎_elim (λ (g : (class classes q.left.n ≡ to) × (class classes q.right.n ≡ from)). class-together a b q.left.n q.right.n lt_a lt_b together (g.0 ∙ sym class_a) (g.1 ∙ sym class_b))
          (λ (g : (class classes q.left.n ≡ from) × (class classes q.right.n ≡ to)). class-together b a q.left.n q.right.n lt_b lt_a (turned a b together) (g.0 ∙ sym class_b) (g.1 ∙ sym class_a)) h.ends;
      reason = inl h.marked;
    }

    pub merged-coarser : Coarsens classes (relabelled from to classes)
    merged-coarser i k lt_i lt_k e = class-relabelled from to classes i lt_i ∙ ap (λ (c : ℕ). cond (nat_eq c from) to c) e ∙ sym (class-relabelled from to classes k lt_k)

    pub merged-one : class (relabelled from to classes) a ≡ class (relabelled from to classes) b
    merged-one =
        ⊎_elim (λ (h : (class classes a ≡ from) × (class (relabelled from to classes) a ≡ to)). absurd (omega (arith, less, class_a, h.0)))
        (λ (h : (class classes a ≢ from) × (class (relabelled from to classes) a ≡ class classes a)). h.1 ∙ class_a) (new-class a lt_a)
        ∙ sym (⊎_elim (λ (h : (class classes b ≡ from) × (class (relabelled from to classes) b ≡ to)). h.1)
        (λ (h : (class classes b ≢ from) × (class (relabelled from to classes) b ≡ class classes b)). absurd (h.0 class_b)) (new-class b lt_b))

    pub merged-fewer : sum (relabelled from to classes) < sum classes
    merged-fewer = sum-relabelled from to classes b (rw partial.as_many lt_b) class_b less

  -- after two terms' classes became one
  pub record IsMerged (new : List ℕ) (a b to from : ℕ) : Type 0 where
    pub still : ArePartial t marks new
    pub coarser : Coarsens classes new
    pub merged : class new a ≡ class new b
    pub fewer : sum new < sum classes
    pub unbroken : MayMerge t marks classes to from → AreUnbroken t marks classes → AreUnbroken t marks new
    pub clash : (q : Named.Clash) → AreConflicting t marks classes to from q → AreClashing t marks q.left.n q.right.n

  -- two terms' classes become one, whichever has the smaller number
  pub merging : marks.width ≡ length t.terms → (a b to from : ℕ) → a < length t.terms → b < length t.terms → AreTogether t marks a b → class classes a ≢ class classes b
      → to ≡ min (class classes a) (class classes b) → from ≡ max (class classes a) (class classes b) → IsMerged (relabelled from to classes) a b to from
  merging width a b to from lt_a lt_b together differ is_to is_from = go (ends (class classes a) (class classes b) to from is_to is_from differ)
    where
      ends : (x y p q : ℕ) → p ≡ min x y → q ≡ max x y → x ≢ y → ((x ≡ p) × (y ≡ q) × (p < q)) ⊎ ((y ≡ p) × (x ≡ q) × (p < q))
      ends x y p q one two differ = grind arith

      go : ((class classes a ≡ to) × (class classes b ≡ from) × (to < from)) ⊎ ((class classes b ≡ to) × (class classes a ≡ from) × (to < from)) → IsMerged (relabelled from to classes) a b to from
      go (inl h) = record {
        still = merged-partial a b to from lt_a lt_b together h.0 h.1 h.2;
        coarser = merged-coarser a b to from lt_a lt_b together h.0 h.1 h.2;
        merged = merged-one a b to from lt_a lt_b together h.0 h.1 h.2;
        fewer = merged-fewer a b to from lt_a lt_b together h.0 h.1 h.2;
        unbroken = merged-unbroken a b to from lt_a lt_b together h.0 h.1 h.2 width;
        clash = find_conflict-clash a b to from lt_a lt_b together h.0 h.1 h.2 width;
      }
      go (inr h) =
          let other = turned a b together in record {
            still = merged-partial b a to from lt_b lt_a other h.0 h.1 h.2;
            coarser = merged-coarser b a to from lt_b lt_a other h.0 h.1 h.2;
            merged = sym (merged-one b a to from lt_b lt_a other h.0 h.1 h.2);
            fewer = merged-fewer b a to from lt_b lt_a other h.0 h.1 h.2;
            unbroken = merged-unbroken b a to from lt_b lt_a other h.0 h.1 h.2 width;
            clash = find_conflict-clash b a to from lt_b lt_a other h.0 h.1 h.2 width;
          }

  pub merged-answer : (a b to from : ℕ) (new : List ℕ) → IsMerged new a b to from → (o : Option Named.Clash) → MatchOption o (MayMerge t marks classes to from) (AreConflicting t marks classes to from)
      → MatchOption o (AreUnbroken t marks classes → AreUnbroken t marks new) (λ q. AreClashing t marks q.left.n q.right.n)
  merged-answer a b to from new m None h = m.unbroken h
  merged-answer a b to from new m (Some q) h = m.clash q h

  pub are-below : AreBelow t classes
  are-below = record { as_many = partial.as_many; below = below }

  pub marked-together : (i j : ℕ) → is_marked marks true i j ≡ true → AreTogether t marks i j
  marked-together i j h s u at_s at_u = stated s u (i, j, at_s, at_u, h)

  -- what is saturated and has the facts is closed
  pub saturated-closed : IsSaturated t classes
      → ((i j : ℕ) (s u : Term) → IsAt t.terms i s → IsAt t.terms j u → IsAsserted t.terms marks (Equal s u true) → class classes i ≡ class classes j)
      → AreClosed t.shape.schema (IsAsserted t.terms marks) t.terms classes
  saturated-closed sat same = record {
    stated = same;
    same_images = λ i j k l s u f at_i at_j at_k at_l e. sat.images k l i j f (link-of t table k i s f at_i at_k) (link-of t table l j u f at_j at_l) e;
    image_of_undef = λ i k s f d known at_i at_k e. (sat.undefs k i f (link-of t table k i s f at_i at_k)).undef d known e;
    only_undef = λ i k s f d known total at_i at_k e. (sat.undefs k i f (link-of t table k i s f at_i at_k)).total d known total e;
  }

module _ (t : TableParts) (table : IsTable t) (marks : MarkParts) (facts_fit : FactsFit t marks) where
  -- an undef and a constant, or two constants
  rigid-conflict : (i j : ℕ) (s u : Term) → i < rigid_count t → j < rigid_count t → i ≢ j → IsAt t.terms i s → IsAt t.terms j u
      → Together t.shape.schema t.problem.literals (IsAsserted t.terms marks) s u → Conflict (IsAsserted t.terms marks) s u
  rigid-conflict i j s u lt_i lt_j differ at_s at_u together = go (rigid_cases t table i lt_i) (rigid_cases t table j lt_j)
    where
      go : ((i < t.shape.schema.sorts) × IsAt t.terms i (undef_term (record { n = i })))
          ⊎ ((c : ConstId) × (c.n < length t.shape.schema.constants) × (i ≡ t.shape.schema.sorts + c.n) × IsAt t.terms i (constant_term c))
          → ((j < t.shape.schema.sorts) × IsAt t.terms j (undef_term (record { n = j })))
          ⊎ ((c : ConstId) × (c.n < length t.shape.schema.constants) × (j ≡ t.shape.schema.sorts + c.n) × IsAt t.terms j (constant_term c))
          → Conflict (IsAsserted t.terms marks) s u
      go (inl h) (inl g) =
          let one = at-same t.terms i s (undef_term (record { n = i })) at_s h.1 in
          let two = at-same t.terms j u (undef_term (record { n = j })) at_u g.1 in
          let same = together-sorted t.shape t.problem.rows t.problem.params table.shape.schema t.problem.literals table.fits.literals (IsAsserted t.terms marks) facts_fit together in
          let left = undef-sort t.shape t.problem.rows t.problem.params (record { n = i }) same.sort (subst (λ (w : Term). sort_of t.shape t.problem.rows t.problem.params w ≡ Some same.sort) one same.left) in
          let right = undef-sort t.shape t.problem.rows t.problem.params (record { n = j }) same.sort (subst (λ (w : Term). sort_of t.shape t.problem.rows t.problem.params w ≡ Some same.sort) two same.right) in
          absurd (differ (ap (λ (q : SortId). q.n) (left ∙ sym right)))
      go (inl h) (inr g) =
          rw (at-same t.terms i s (undef_term (record { n = i })) at_s h.1, at-same t.terms j u (constant_term g.0) at_u g.3) (undef_and_constant (record { n = i }) g.0)
      go (inr h) (inl g) =
          rw (at-same t.terms i s (constant_term h.0) at_s h.3, at-same t.terms j u (undef_term (record { n = j })) at_u g.1) (constant_and_undef h.0 (record { n = j }))
      go (inr h) (inr g) =
          rw (at-same t.terms i s (constant_term h.0) at_s h.3, at-same t.terms j u (constant_term g.0) at_u g.3)
          (constants h.0 g.0 (λ (e : h.0 ≡ g.0). differ (h.2 ∙ ap (λ (q : ConstId). t.shape.schema.sorts + q.n) e ∙ sym g.2)))

  -- two terms that clash can't be the same
  pub clashing-conflict : (i j : ℕ) (s u : Term) → AreClashing t marks i j → IsAt t.terms i s → IsAt t.terms j u → Conflict (IsAsserted t.terms marks) s u
  clashing-conflict i j s u c at_s at_u =
      ⊎_elim (λ (h : is_marked marks false i j ≡ true). asserted_apart s u (i, j, at_s, at_u, h))
      (λ (h : (i < rigid_count t) × (j < rigid_count t) × (i ≢ j)). rigid-conflict i j s u h.0 h.1 h.2 at_s at_u (c.together s u at_s at_u)) c.reason

-- what must be the same, and can't be, clashes
pub conflict-clash : (schema : SchemaParts) (literals : List Literal) (IsFact : Literal → Type 0) {s u : Term} → Together schema literals IsFact s u → Conflict IsFact s u
    → Clash schema literals IsFact
conflict-clash schema literals IsFact together (asserted_apart s u fact) = stated_apart s u fact together
conflict-clash schema literals IsFact together (constants a b differ) = two_constants a b differ together
conflict-clash schema literals IsFact together (constant_and_undef a s) = constant_undef a s together
conflict-clash schema literals IsFact together (undef_and_constant s a) = constant_undef a s (symmetric (undef_term s) (constant_term a) together)
