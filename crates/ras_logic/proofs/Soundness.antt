-- Terms that are together have one value wherever the facts hold, and facts that clash hold in no database.
use Rattle.std.proofs.Common.{◌≡◌, ℕ, true, false, List, [], ◌∷◌, nat_eq, refl, sym, ◌∙◌, ap, arith}
use Rattle.std.specs.Prelude.{All, IsTrue}
use Rattle.std.proofs.lemmas.Bool.{eqb-true, eq-eqb, not-true}
use Rattle.ras_logic.specs.declared.ids.SortId.{SortId}
use Rattle.ras_logic.specs.declared.ids.FunId.{FunId}
use Rattle.ras_logic.specs.declared.ids.RelId.{RelId}
use Rattle.ras_logic.specs.declared.raw_db.RawDb.{RawDb}
use Rattle.ras_logic.specs.declared.values.Values.{Values}
use Rattle.ras_logic.specs.declared.term.Term.{Term}
use Rattle.ras_logic.specs.declared.literal.Literal.{Literal}
use Rattle.ras_logic.specs.declared.literal.Literal.TheVariants.{Equal}
use Rattle.ras_logic.specs.Shapes.{ShapeParts}
use Rattle.ras_logic.specs.Schemas.{IsSchema}
use Rattle.ras_logic.specs.Databases.{IsDatabase, image}
use Rattle.ras_logic.specs.Truth.{AreValues, value_of_base, value, holds}
use Rattle.ras_logic.specs.Formulas.{LiteralFits}
use Rattle.ras_logic.specs.Terms.{image_term}
use Rattle.ras_logic.proofs.TermSorts.{image_along-append, image-total, value-element, constant-sort}
use Rattle.ras_logic.specs.Clashes.{Together, Clash, reflexive, symmetric, transitive, stated, same_images, image_of_undef, only_undef, stated_apart, two_constants, constant_undef}
use Rattle.ras_logic.proofs.SameSorts.{together-sorted, image-source}

-- the value of the image of a term
pub value-image : (d : RawDb) (v : Values) (t : Term) (f : FunId) → value d v (image_term t f) ≡ image d f.n (value d v t)
value-image d v t f = image_along-append d t.path (f ∷ []) (value_of_base d v t.base)

module _ (shape : ShapeParts) (rows : List RelId) (params : List SortId) (ok : IsSchema shape.schema)
    (literals : List Literal) (fit : All (LiteralFits shape rows params) literals)
    (IsFact : Literal → Type 0) (facts_fit : (l : Literal) → IsFact l → LiteralFits shape rows params l)
    (d : RawDb) (db : IsDatabase shape.schema d) (v : Values) (values : AreValues shape d rows params v)
    (hold : (l : Literal) → IsFact l → IsTrue (holds d v l)) where
  pub together-value : {s t : Term} → Together shape.schema literals IsFact s t → value d v s ≡ value d v t
  together-value (reflexive t known) = refl
  together-value (symmetric s t r) = sym (together-value r)
  together-value (transitive r s t p q) = together-value p ∙ together-value q
  together-value (stated s t inside) = eqb-true (value d v s) (value d v t) (hold (Equal s t true) inside)
  together-value (same_images s t f r one other) = value-image d v s f ∙ ap (image d f.n) (together-value r) ∙ sym (value-image d v t f)
  together-value (image_of_undef t f decl known r one) = value-image d v t f ∙ ap (image d f.n) (together-value r)
  together-value (only_undef t f decl known total r) =
      let same = together-sorted shape rows params ok literals fit IsFact facts_fit r in
      let source = (image-source shape rows params t f decl same.sort known same.left).0 in
      image-total shape d db f decl (value d v t) known total
      (value-element shape d db rows params v values t decl.source source)
      (sym (value-image d v t f) ∙ together-value r)

  -- what clashes does not hold
  pub clash-none : Clash shape.schema literals IsFact → ⊥
  clash-none (stated_apart s t inside r) =
      let h = hold (Equal s t false) inside in
      let e : nat_eq (value d v s) (value d v t) ≡ true = eq-eqb (value d v s) (value d v t) (together-value r) in
      absurd (cc (not-true (nat_eq (value d v s) (value d v t)) h))
  clash-none (two_constants c e differ r) =
      let a = together-sorted shape rows params ok literals fit IsFact facts_fit r in
      let same : c.n ≡ e.n = db.apart c.n e.n a.sort (constant-sort shape rows params c a.sort a.left) (constant-sort shape rows params e a.sort a.right) (together-value r) in
      differ (ap (λ (m : ℕ). record { n = m }) same)
  clash-none (constant_undef c s r) =
      let a = together-sorted shape rows params ok literals fit IsFact facts_fit r in
      let above = (db.each_constant c.n a.sort (constant-sort shape rows params c a.sort a.left)).0 in
      absurd (omega (arith, above, together-value r))
