-- A prefix of a term is a term.
use Rattle.std.proofs.Common.{◌≡◌, List, [], ◌∷◌, ◌++◌, refl, sym, ◌∙◌, ap, subst, append_assoc}
use Rattle.ras_logic.specs.declared.ids.FunId.{FunId}
use Rattle.ras_logic.specs.declared.term.Base.{Base}
use Rattle.ras_logic.specs.declared.term.Base.TheVariants.{Constant, Undef}
use Rattle.ras_logic.specs.declared.term.Term.{Term}
use Rattle.ras_logic.specs.declared.literal.Literal.{Literal}
use Rattle.ras_logic.specs.Schemas.{SchemaParts}
use Rattle.ras_logic.specs.Terms.{base_term, image_term}
use Rattle.ras_logic.specs.Clashes.{IsPrefixOf, IsTerm, of_literals, a_constant, an_undef}

append-nil_left : (xs ys : List FunId) → [] ≡ xs ++ ys → xs ≡ []
append-nil_left [] ys h = refl
append-nil_left (x ∷ xs) ys h = absurd (cc)

pub same_term : (s t : Term) → s.base ≡ t.base → s.path ≡ t.path → s ≡ t
same_term s t b p =
    let one : record { base = s.base; path = s.path } ≡ t =
    ap (λ (x : Base). let u : Term = record { base = x; path = s.path } in u) b ∙ ap (λ (xs : List FunId). let u : Term = record { base = t.base; path = xs } in u) p in one

module _ (schema : SchemaParts) (literals : List Literal) where
  of_base : (q : Term) (b : Base) (rest : List FunId) → q.base ≡ b → [] ≡ q.path ++ rest → IsTerm schema literals (base_term b) → IsTerm schema literals q
  of_base q b rest base path h = subst (λ (t : Term). IsTerm schema literals t) (sym (same_term q (base_term b) base (append-nil_left q.path rest path))) h

  pub prefix-term : (q : Term) {p : Term} → IsPrefixOf q p → IsTerm schema literals p → IsTerm schema literals q
  prefix-term q {p = p} pre (of_literals t inside pre2) =
      of_literals {p = q} t inside (pre.0 ∙ pre2.0, (pre.1.0 ++ pre2.1.0, pre2.1.1 ∙ ap (λ (xs : List FunId). xs ++ pre2.1.0) pre.1.1 ∙ append_assoc q.path pre.1.0 pre2.1.0))
  prefix-term q pre (a_constant c lt) = of_base q (Constant c) pre.1.0 pre.0 pre.1.1 (a_constant c lt)
  prefix-term q pre (an_undef s lt) = of_base q (Undef s) pre.1.0 pre.0 pre.1.1 (an_undef s lt)

  pub parent-term : (t : Term) (f : FunId) → IsTerm schema literals (image_term t f) → IsTerm schema literals t
  parent-term t f h = prefix-term t {p = image_term t f} (refl, (f ∷ [], refl)) h
