-- Elements for terms, the same count for every sort: a class beyond the undefs has its number's distance from them.
use Rattle.std.proofs.Common.{length, ◌≡◌, ℕ, zero, suc, ◌+◌, ◌-◌, ◌<◌, ◌≤◌, List, refl, sym, ◌∙◌, ap, arith, ◌⊎◌, inl, inr}
use Rattle.std.specs.Prelude.{Some, All}
use Rattle.std.proofs.lemmas.Option.{slice_get_within}
use Rattle.ras_logic.specs.declared.ids.SortId.{SortId}
use Rattle.ras_logic.specs.declared.ids.RelId.{RelId}
use Rattle.ras_logic.specs.declared.term.Term.{Term}
use Rattle.ras_logic.specs.declared.literal.Literal.{Literal}
use Rattle.ras_logic.specs.Shapes.{ShapeParts}
use Rattle.ras_logic.specs.Schemas.{IsSchema}
use Rattle.ras_logic.specs.Formulas.{LiteralFits}
use Rattle.ras_logic.specs.Terms.{sort_of, undef_term}
use Rattle.ras_logic.proofs.TermSorts.{undef-sort}
use Rattle.ras_closure.specs.Classes.{class, AreSound}
use Rattle.ras_closure.specs.Numbered.{IsAt, AreTerms}
use Rattle.ras_logic.proofs.SameSorts.{together-sorted}
use Rattle.ras_closure.proofs.Models.{AreConsistent, AreNumbers}
use Rattle.ras_closure.proofs.Cases.{below_or}

-- elements and a size that are alike for all sorts: a class beyond the undefs has its number's distance from them
abbrev pub number_of : ℕ → List ℕ → ℕ → ℕ
number_of sorts classes i = (class classes i + 1) - sorts

abbrev pub room_of : ℕ → List Term → ℕ
room_of sorts terms = (length terms + 1) - sorts

module _ (shape : ShapeParts) (rows : List RelId) (params : List SortId) (ok : IsSchema shape.schema)
    (literals : List Literal) (fit : All (LiteralFits shape rows params) literals)
    (IsFact : Literal → Type 0) (facts_fit : (l : Literal) → IsFact l → LiteralFits shape rows params l)
    (terms : List Term) (classes : List ℕ) (are : AreTerms shape.schema literals terms) (below : (i : ℕ) → i < length terms → class classes i < length terms) (consistent : AreConsistent shape.schema IsFact terms classes)
    (sound : AreSound shape.schema literals IsFact terms classes) where
  -- a class with the number of an undef is that of the sort's undef
  low-class : (i : ℕ) (t : Term) (s : SortId) → IsAt terms i t → sort_of shape rows params t ≡ Some s → class classes i < shape.schema.sorts → class classes i ≡ s.n
  low-class i t s at sorted lt =
      let u : SortId = record { n = class classes i } in
      let same = together-sorted shape rows params ok literals fit IsFact facts_fit
      (sound i (class classes i) t (undef_term u) at (are.undefs u lt) (sym (consistent.rigid (class classes i) (omega arith)))) in
      let one : s ≡ same.sort = cc in
      let two = undef-sort shape rows params u same.sort same.right in
      sym (ap (λ (q : SortId). q.n) (one ∙ sym two))

  pub uniform-numbers : AreNumbers shape rows params terms classes (number_of shape.schema.sorts classes) (λ _. room_of shape.schema.sorts terms)
  uniform-numbers = record {
    same = λ i j lt_i lt_j e. ap (λ (c : ℕ). (c + 1) - shape.schema.sorts) e;
    apart = λ i j s t u at_i at_j left right e. split i j s t u at_i at_j left right e (below_or (class classes i) shape.schema.sorts) (below_or (class classes j) shape.schema.sorts);
    undefs = λ s lt. let r = consistent.rigid s.n (omega arith) in omega (arith, r, lt);
    within = λ i t s at sorted. let b = below i (slice_get_within terms i t at) in omega (arith, b);
    room = λ f decl known total x lt le none. roomy shape.schema.sorts refl;
  }
    where
      split : (i j : ℕ) (s t : Term) (u : SortId) → IsAt terms i s → IsAt terms j t → sort_of shape rows params s ≡ Some u → sort_of shape rows params t ≡ Some u
          → number_of shape.schema.sorts classes i ≡ number_of shape.schema.sorts classes j
          → (class classes i < shape.schema.sorts) ⊎ (shape.schema.sorts ≤ class classes i) → (class classes j < shape.schema.sorts) ⊎ (shape.schema.sorts ≤ class classes j)
          → class classes i ≡ class classes j
      split i j s t u at_i at_j left right e (inl a) (inl b) = low-class i s u at_i left a ∙ sym (low-class j t u at_j right b)
      split i j s t u at_i at_j left right e (inl a) (inr b) = absurd (omega arith)
      split i j s t u at_i at_j left right e (inr a) (inl b) = absurd (omega arith)
      split i j s t u at_i at_j left right e (inr a) (inr b) = omega arith

      roomy : (n : ℕ) → n ≡ shape.schema.sorts → 0 < room_of shape.schema.sorts terms
      roomy zero e = omega arith
      roomy (suc n) e =
          let lt : n < shape.schema.sorts = omega arith in
          let w = slice_get_within terms n (undef_term (record { n = n })) (are.undefs (record { n = n }) lt) in
          omega arith
