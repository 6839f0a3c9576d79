-- Without facts nothing clashes.
use Rattle.std.proofs.Common.{◌≡◌, true, false, List, refl, sym, ◌∙◌, ap, subst, ◌⊎◌, inl, inr, ⊎_elim}
use Rattle.ras_logic.specs.declared.ids.SortId.{SortId}
use Rattle.ras_logic.specs.declared.ids.ConstId.{ConstId}
use Rattle.ras_logic.specs.declared.ids.FunId.{FunId}
use Rattle.ras_logic.specs.declared.term.Base.TheVariants.{Undef, Constant}
use Rattle.ras_logic.specs.declared.term.Term.{Term}
use Rattle.ras_logic.specs.declared.literal.Literal.{Literal}
use Rattle.ras_logic.specs.declared.literal.Literal.TheVariants.{Equal}
use Rattle.ras_logic.specs.Schemas.{SchemaParts}
use Rattle.ras_logic.specs.Terms.{constant_term, undef_term, image_term}
use Rattle.ras_logic.specs.Clashes.{Together, Clash, reflexive, symmetric, transitive, stated, same_images, image_of_undef, only_undef, stated_apart, two_constants, constant_undef}
use Rattle.ras_closure.proofs.Merges.{no_snoc}

-- the term begins at an undef
abbrev IsRooted : Term → Type 0
IsRooted t = (s : SortId) × (t.base ≡ Undef s)

module _ (schema : SchemaParts) (literals : List Literal) (F : Literal → Type 0) (none : (l : Literal) → F l → ⊥) where
  abbrev Alike : Term → Term → Type 0
  Alike s t = (s ≡ t) ⊎ (IsRooted s × IsRooted t)

  alike_transitive : (r s t : Term) → Alike r s → Alike s t → Alike r t
  alike_transitive r s t (inl e) (inl g) = inl (e ∙ g)
  alike_transitive r s t (inl e) (inr g) = inr (subst IsRooted (sym e) g.0, g.1)
  alike_transitive r s t (inr e) (inl g) = inr (e.0, subst IsRooted g e.1)
  alike_transitive r s t (inr e) (inr g) = inr (e.0, g.1)

  alike_images : (s t : Term) (f : FunId) → Alike s t → Alike (image_term s f) (image_term t f)
  alike_images s t f (inl e) = inl (ap (λ (u : Term). image_term u f) e)
  alike_images s t f (inr e) = inr e

  alike_undef : (t : Term) (f : FunId) (a b : SortId) → Alike t (undef_term a) → Alike (image_term t f) (undef_term b)
  alike_undef t f a b (inl e) = inr ((a, ap (λ (u : Term). u.base) e), (b, refl))
  alike_undef t f a b (inr e) = inr (e.0, (b, refl))

  alike_only : (t : Term) (f : FunId) (a b : SortId) → Alike (image_term t f) (undef_term b) → Alike t (undef_term a)
  alike_only t f a b (inl e) = absurd (no_snoc t.path f (ap (λ (u : Term). u.path) e))
  alike_only t f a b (inr e) = inr (e.0, (a, refl))

  alike : {s t : Term} → Together schema literals F s t → Alike s t
  alike (reflexive t known) = inl refl
  alike (symmetric s t r) = ⊎_elim (λ (e : s ≡ t). inl (sym e)) (λ (e : IsRooted s × IsRooted t). inr (e.1, e.0)) (alike r)
  alike (transitive r s t p q) = alike_transitive r s t (alike p) (alike q)
  alike (stated s t fact) = absurd (none (Equal s t true) fact)
  alike (same_images s t f r one other) = alike_images s t f (alike r)
  alike (image_of_undef t f d known r one) = alike_undef t f d.source d.target (alike r)
  alike (only_undef t f d known total r) = alike_only t f d.source d.target (alike r)

  not_rooted : (c : ConstId) → IsRooted (constant_term c) → ⊥
  not_rooted c h = let e : Constant c ≡ Undef h.0 = h.1 in cc

  same_constant : (c e : ConstId) → constant_term c ≡ constant_term e → c ≡ e
  same_constant c e h = let b : Constant c ≡ Constant e = ap (λ (t : Term). t.base) h in cc

  pub no_facts-no_clash : Clash schema literals F → ⊥
  no_facts-no_clash (stated_apart s t fact r) = none (Equal s t false) fact
  no_facts-no_clash (two_constants c e differ r) = ⊎_elim (λ (h : constant_term c ≡ constant_term e). differ (same_constant c e h)) (λ (h : IsRooted (constant_term c) × IsRooted (constant_term e)). not_rooted c h.0) (alike r)
  no_facts-no_clash (constant_undef c s r) =
      ⊎_elim (λ (h : constant_term c ≡ undef_term s). not_rooted c (s, ap (λ (t : Term). t.base) h)) (λ (h : IsRooted (constant_term c) × IsRooted (undef_term s)). not_rooted c h.0) (alike r)
