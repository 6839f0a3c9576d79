-- What stands for a term: it has no data parameter, its sort, and its value wherever the facts hold.
use Rattle.std.proofs.Common.{◌≡◌, ℕ, zero, suc, ◌+◌, ◌<◌, ◌≤◌, true, false, List, [], ◌∷◌, ◌++◌, length, get_or, refl, sym, ◌∙◌, ap, subst, arith, ◌⊎◌, inl, inr, ⊎_elim}
use Rattle.std.specs.Prelude.{slice_get, Option, Some, None, All, option_and_then}
use Rattle.std.proofs.lemmas.Option.{slice_get_within}
use Rattle.ras_logic.specs.declared.ids.SortId.{SortId}
use Rattle.ras_logic.specs.declared.ids.FunId.{FunId}
use Rattle.ras_logic.specs.declared.raw_db.RawDb.{RawDb}
use Rattle.ras_logic.specs.declared.values.Values.{Values}
use Rattle.ras_logic.specs.declared.term.Base.{Base}
use Rattle.ras_logic.specs.declared.term.Term.{Term}
use Rattle.ras_logic.specs.declared.literal.Literal.{Literal}
use Rattle.ras_logic.specs.declared.literal.Literal.TheVariants.{Equal}
use Rattle.ras_logic.specs.Schemas.{SchemaParts}
use Rattle.ras_logic.specs.Formulas.{IsNoParam}
use Rattle.ras_logic.specs.Terms.{sort_of, sort_after, base_term, image_term}
use Rattle.ras_logic.specs.Databases.{image}
use Rattle.ras_logic.specs.Truth.{value}
use Rattle.ras_logic.specs.Clashes.{IsTerm, an_undef, Together, reflexive, symmetric, transitive, stated, same_images, image_of_undef, only_undef}
use Rattle.ras_closure.specs.Numbered.{IsAt, IsTable, IsSortOf, IsImageLink}
use Rattle.ras_closure.specs.Classes.{class}
use Rattle.ras_closure.specs.Closures.{ClosureParts, IsClosure, IsFactOf}
use Rattle.ras_logic.specs.declared.function.FunDecl.{FunDecl}
use Rattle.ras_logic.specs.Schemas.{HasSorts}
use Rattle.ras_logic.proofs.TermSorts.{and_then_through, and_then_from}
use Rattle.ras_closure.proofs.Prefixes.{parent-term}
use Rattle.ras_closure.proofs.Merges.{link-of}
use Rattle.ras_closure.proofs.Cases.{some_same}
use Rattle.ras_logic.proofs.Elements.{from_known}
use Rattle.ras_logic.proofs.SameSorts.{sort_of-image, together-sorted}
use Rattle.ras_logic.proofs.MoreFacts.{together-more}
use Rattle.ras_logic.proofs.Soundness.{value-image, together-value}
use Rattle.ras_closure.proofs.Laws.{classes-together, facts_known}
use Rattle.ras_split.specs.Standing.{Stands, a_base, an_image, of_class, StandsIn, standing, AreStanding, IsOwn, own_base, own_image, AreFull, AreAllStanding, IsKept}
use Rattle.ras_split.specs.Splits.{IsModel}

module _ (schema : SchemaParts) (literals : List Literal) (IsFact : Literal → Type 0) where
  pub stands-free : {t r : Term} → Stands schema literals IsFact t r → IsNoParam r.base
  stands-free (a_base b known free) = free
  stands-free (an_image s q f stands known) = stands-free stands
  stands-free (of_class s t r together stands) = stands-free stands

-- more facts keep what stands for a term
module _ (schema : SchemaParts) (literals : List Literal) (P Q : Literal → Type 0) (more : (l : Literal) → P l → Q l) where
  pub stands-more : {t r : Term} → Stands schema literals P t r → Stands schema literals Q t r
  stands-more (a_base b known free) = a_base b known free
  stands-more (an_image s q f stands known) = an_image s q f (stands-more stands) known
  stands-more (of_class s t r together stands) = of_class s t r (together-more schema literals literals (λ u known. known) P Q more together) (stands-more stands)

module _ (c : ClosureParts) (table : IsTable c.table) (closure : IsClosure c) where
  -- terms that are together are terms of the closure
  sorts-of : (f : FunId) (d : FunDecl) → slice_get c.table.shape.schema.functions f.n ≡ Some d → HasSorts c.table.shape.schema.sorts d
  sorts-of f d known = from_known (HasSorts c.table.shape.schema.sorts) c.table.shape.schema.functions table.shape.schema.functions f.n d known

  terms-of : {s t : Term} → Together c.table.shape.schema c.table.problem.literals (IsFactOf c) s t
      → IsTerm c.table.shape.schema c.table.problem.literals s × IsTerm c.table.shape.schema c.table.problem.literals t
  terms-of (reflexive t known) = (known, known)
  terms-of (symmetric s t r) = let a = terms-of r in (a.1, a.0)
  terms-of (transitive r s t p q) = let a = terms-of p in let b = terms-of q in (a.0, b.1)
  terms-of (stated s t fact) = facts_known c table closure s t true fact
  terms-of (same_images s t f r one other) = (one, other)
  terms-of (image_of_undef t f d known r one) = (one, an_undef d.target ((sorts-of f d known).1))
  terms-of (only_undef t f d known total r) = (parent-term c.table.shape.schema c.table.problem.literals t f (terms-of r).0, an_undef d.source ((sorts-of f d known).0))

  pub stands-term : {t r : Term} → StandsIn c t r → IsTerm c.table.shape.schema c.table.problem.literals t
  stands-term (a_base b known free) = known
  stands-term (an_image s q f stands known) = known
  stands-term (of_class s t r together stands) = (terms-of together).1

  -- it has the term's sort
  pub stands-sort : {t r : Term} → StandsIn c t r → (s : SortId) → IsSortOf c.table t s → IsSortOf c.table r s
  stands-sort (a_base b known free) s sorted = sorted
  stands-sort (an_image t q f stands known) s sorted = image_sort t q f s (stands-sort stands) sorted
    where
      image_sort : (t q : Term) (f : FunId) (s : SortId) → ((u : SortId) → IsSortOf c.table t u → IsSortOf c.table q u) → IsSortOf c.table (image_term t f) s → IsSortOf c.table (image_term q f) s
      image_sort t q f s same sorted =
          let u = and_then_through (sort_after c.table.shape.schema f) (sort_of c.table.shape c.table.problem.rows c.table.problem.params t) s
          (sym (sort_of-image c.table.shape c.table.problem.rows c.table.problem.params t f) ∙ sorted) in
          sort_of-image c.table.shape c.table.problem.rows c.table.problem.params q f
          ∙ and_then_from (sort_after c.table.shape.schema f) (sort_of c.table.shape c.table.problem.rows c.table.problem.params q) u.mid s (same u.mid u.first) u.second
  stands-sort (of_class t u r together stands) s sorted = stands-sort stands s (class_sort together sorted)
    where
      class_sort : {t u : Term} → Together c.table.shape.schema c.table.problem.literals (IsFactOf c) t u → IsSortOf c.table u s → IsSortOf c.table t s
      class_sort together sorted =
          let a = together-sorted c.table.shape c.table.problem.rows c.table.problem.params table.shape.schema c.table.problem.literals table.fits.literals (IsFactOf c) closure.facts_fit together in
          let one : s ≡ a.sort = some_same (sym sorted ∙ a.right) in
          a.left ∙ ap (λ (q : SortId). Some q) (sym one)

  -- it has the term's value
  module _ (d : RawDb) (v : Values) (model : IsModel c d v) where
    pub stands-value : {t r : Term} → StandsIn c t r → value d v t ≡ value d v r
    stands-value (a_base b known free) = refl
    stands-value (an_image t q f stands known) = value-image d v t f ∙ ap (image d f.n) (stands-value stands) ∙ sym (value-image d v q f)
    stands-value (of_class t u r together stands) =
        sym (together-value c.table.shape c.table.problem.rows c.table.problem.params table.shape.schema c.table.problem.literals table.fits.literals (IsFactOf c) closure.facts_fit
        d model.database v model.values model.facts together) ∙ stands-value stands

  -- where each class that can have one has one, something is there for each term that something stands for
  pub kept-standing : (terms : List (Option Term)) → AreAllStanding c terms → {t r : Term} → StandsIn c t r → (i : ℕ) → IsAt c.table.terms i t
      → (q : Term) × (standing c terms i ≡ Some q)
  kept-standing terms all (a_base b known free) i at = all.full i (slice_get_within c.table.terms i (base_term b) at) (base_term b) (own_base b at free)
  kept-standing terms all (an_image s q f stands known) i at =
      let of = table.terms.complete s (parent-term c.table.shape.schema c.table.problem.literals s f known) in
      let by = kept-standing terms all stands of.0 of.1 in
      all.full i (slice_get_within c.table.terms i (image_term s f) at) (image_term by.0 f) (own_image of.0 f s by.0 (link-of c.table table i of.0 s f of.1 at) of.1 by.1)
  kept-standing terms all (of_class s t r together stands) i at =
      let j = table.terms.complete s (stands-term stands) in
      let by = kept-standing terms all stands j.0 j.1 in
      let same : class c.classes j.0 ≡ class c.classes i = (classes-together c table closure j.0 i s t j.1 at).1 together in
      (by.0, ap (λ (x : ℕ). get_or terms x None) (sym same) ∙ by.1)
