-- A closed table of classes has terms that are together in one class.
use Rattle.std.proofs.Common.{◌≡◌, ℕ, ◌<◌, true, List, refl, sym, ◌∙◌, ap}
use Rattle.std.specs.Prelude.{slice_get, Some, Bool}
use Rattle.ras_logic.specs.declared.ids.FunId.{FunId}
use Rattle.ras_logic.specs.declared.function.FunDecl.{FunDecl}
use Rattle.ras_logic.specs.declared.term.Term.{Term}
use Rattle.ras_logic.specs.declared.literal.Literal.{Literal}
use Rattle.ras_logic.specs.declared.literal.Literal.TheVariants.{Equal}
use Rattle.ras_logic.specs.Schemas.{SchemaParts}
use Rattle.ras_logic.specs.Terms.{undef_term, image_term}
use Rattle.ras_logic.specs.Clashes.{IsTerm, Together, reflexive, symmetric, transitive, stated, same_images, image_of_undef, only_undef}
use Rattle.ras_closure.specs.Classes.{class, AreClosed}
use Rattle.ras_closure.specs.Numbered.{IsAt, AreTerms}
use Rattle.ras_closure.proofs.Prefixes.{parent-term}

module _ (schema : SchemaParts) (literals : List Literal) (IsFact : Literal → Type 0) (terms : List Term) (classes : List ℕ)
    (sorted : (f : FunId) (d : FunDecl) → slice_get schema.functions f.n ≡ Some d → (d.source.n < schema.sorts) × (d.target.n < schema.sorts))
    (facts_known : (s t : Term) (same : Bool) → IsFact (Equal s t same) → IsTerm schema literals s × IsTerm schema literals t)
    (are : AreTerms schema literals terms) (closed : AreClosed schema IsFact terms classes) where
  -- two terms of the list in one class
  pub record Alike (s t : Term) : Type 0 where
    pub i : ℕ
    pub j : ℕ
    pub left : IsAt terms i s
    pub right : IsAt terms j t
    pub same : class classes i ≡ class classes j

  alike : (s t : Term) → Together schema literals IsFact s t → Alike s t
  alike s t (reflexive u known) = let a = are.complete u known in record { i = a.0; j = a.0; left = a.1; right = a.1; same = refl }
  alike s t (symmetric u w r) = let a = alike u w r in record { i = a.j; j = a.i; left = a.right; right = a.left; same = sym a.same }
  alike s t (transitive u w x p q) =
      let a = alike u w p in let b = alike w x q in
      record { i = a.i; j = b.j; left = a.left; right = b.right; same = a.same ∙ ap (class classes) (are.different a.j b.i w a.right b.left) ∙ b.same }
  alike s t (stated u w fact) =
      let known = facts_known u w true fact in let a = are.complete u known.0 in let b = are.complete w known.1 in
      record { i = a.0; j = b.0; left = a.1; right = b.1; same = closed.stated a.0 b.0 u w a.1 b.1 fact }
  alike s t (same_images u w f r one other) =
      let a = alike u w r in let k = are.complete (image_term u f) one in let l = are.complete (image_term w f) other in
      record { i = k.0; j = l.0; left = k.1; right = l.1; same = closed.same_images a.i a.j k.0 l.0 u w f a.left a.right k.1 l.1 a.same }
  alike s t (image_of_undef u f d known r one) =
      let a = alike u (undef_term d.source) r in let k = are.complete (image_term u f) one in let q = sorted f d known in
      let source : a.j ≡ d.source.n = are.different a.j d.source.n (undef_term d.source) a.right (are.undefs d.source q.0) in
      record {
        i = k.0;
        j = d.target.n;
        left = k.1;
        right = are.undefs d.target q.1;
        same = closed.image_of_undef a.i k.0 u f d known a.left k.1 (a.same ∙ ap (class classes) source);
      }
  alike s t (only_undef u f d known total r) =
      let a = alike (image_term u f) (undef_term d.target) r in let q = sorted f d known in
      let i = are.complete u (parent-term schema literals u f (are.known a.i (image_term u f) a.left)) in
      let target : a.j ≡ d.target.n = are.different a.j d.target.n (undef_term d.target) a.right (are.undefs d.target q.1) in
      record {
        i = i.0;
        j = d.source.n;
        left = i.1;
        right = are.undefs d.source q.0;
        same = closed.only_undef i.0 a.i u f d known total i.1 a.left (a.same ∙ ap (class classes) target);
      }

  pub together-class : (s t : Term) (i j : ℕ) → IsAt terms i s → IsAt terms j t → Together schema literals IsFact s t → class classes i ≡ class classes j
  together-class s t i j left right r =
      let a = alike s t r in
      ap (class classes) (are.different i a.i s left a.left) ∙ a.same ∙ ap (class classes) (are.different a.j j t a.right right)
