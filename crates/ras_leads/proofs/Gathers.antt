-- Cubes that are added where they are not there yet.
use Rattle.std.proofs.Common.{◌≡◌, List, [], ◌∷◌, ◌++◌, sym, ◌∙◌, ap, subst, inl, inr, ⊎_elim}
use Rattle.std.specs.Prelude.{slice_get, Some, Any}
use Rattle.ras_logic.specs.declared.problem.Problem.{Problem}
use Rattle.ras_logic.specs.Shapes.{ShapeParts}
use Rattle.ras_logic.specs.Formulas.{Fits, IsCube}
use Rattle.ras_logic.specs.Clashes.{FactsClash}
use Rattle.ras_logic.proofs.Elements.{from_known}
use Rattle.ras_split.specs.Among.{IsAmong}
use Rattle.ras_split.proofs.Listed.{all-among, any-among, among-more, among-last, among-either, among-none, push-place}
use Rattle.ras_cubes.specs.Reduced.{IsOnce}
use Rattle.ras_cover.specs.Covers.{AreTidy}
use Rattle.ras_leads.specs.Covered.{AreCubesOfSome}
use Rattle.ras_leads.specs.Gathered.{Gathers, IsTidyCover, AreGathered}

one-of : (c q : Problem) → IsAmong (c ∷ []) q → q ≡ c
one-of c q h = ⊎_elim (λ (n : IsAmong [] q). absurd (among-none q n)) (λ e. e) (among-either [] c q h)

pub gathers-there : (old : List Problem) (c : Problem) → IsAmong old c → Gathers old (c ∷ []) old
gathers-there old c there = record {
  kept = λ q h. h;
  each = λ q h. inl h;
  all = λ q h. subst (IsAmong old) (sym (one-of c q h)) there;
  once = λ once. once;
}

pub gathers-new : (old : List Problem) (c : Problem) → (IsAmong old c → ⊥) → Gathers old (c ∷ []) (old ++ c ∷ [])
gathers-new old c new = record {
  kept = λ q h. among-more old c q h;
  each = λ q h. ⊎_elim (λ (o : IsAmong old q). inl o) (λ (e : q ≡ c). inr (subst (IsAmong (c ∷ [])) (sym e) (among-last [] c))) (among-either old c q h);
  all = λ q h. subst (IsAmong (old ++ c ∷ [])) (sym (one-of c q h)) (among-last old c);
  once = λ once j k q at_j at_k.
      ⊎_elim
      (λ (in_j : slice_get old j ≡ Some q).
      ⊎_elim (λ (in_k : slice_get old k ≡ Some q). once j k q in_j in_k)
      (λ h. absurd (new (record { number = j; known = in_j ∙ ap (λ (y : Problem). Some y) h.1 }))) (push-place old c q k at_k))
      (λ g. ⊎_elim (λ (in_k : slice_get old k ≡ Some q). absurd (new (record { number = k; known = in_k ∙ ap (λ (y : Problem). Some y) g.1 })))
      (λ h. g.0 ∙ sym h.0) (push-place old c q k at_k))
      (push-place old c q j at_j);
}

pub gathers-start : (old : List Problem) → Gathers old [] old
gathers-start old = record { kept = λ q h. h; each = λ q h. inl h; all = λ q h. absurd (among-none q h); once = λ once. once }

-- one more
pub gathers-on : (old done : List Problem) (c : Problem) (mid new : List Problem) → Gathers old done mid → Gathers mid (c ∷ []) new → Gathers old (done ++ c ∷ []) new
gathers-on old done c mid new first second = record {
  kept = λ q h. second.kept q (first.kept q h);
  each = λ q h.
      ⊎_elim (λ (m : IsAmong mid q). ⊎_elim (λ (o : IsAmong old q). inl o) (λ (a : IsAmong done q). inr (among-more done c q a)) (first.each q m))
      (λ (a : IsAmong (c ∷ []) q). inr (subst (IsAmong (done ++ c ∷ [])) (sym (one-of c q a)) (among-last done c))) (second.each q h);
  all = λ q h.
      ⊎_elim (λ (a : IsAmong done q). second.kept q (first.all q a))
      (λ (e : q ≡ c). second.all q (subst (IsAmong (c ∷ [])) (sym e) (among-last [] c))) (among-either done c q h);
  once = λ once. second.once (first.once once);
}

pub gathered-start : (shape : ShapeParts) → AreGathered shape [] []
gathered-start shape = record {
  each = λ c h. absurd (among-none c h);
  all = λ p h. absurd (among-none p h);
  once = λ j k c at_j at_k. absurd (among-none c (record { number = j; known = at_j }));
}

-- the cover of one problem more
pub gathered-on : (shape : ShapeParts) (done : List Problem) (p : Problem) (cubes cover new : List Problem) → AreGathered shape done cubes → IsTidyCover shape p cover
    → Gathers cubes cover new → AreGathered shape (done ++ p ∷ []) new
gathered-on shape done p cubes cover new so_far covers gathers = record {
  each = λ c h.
      ⊎_elim
      (λ (o : IsAmong cubes c).
      let f = so_far.each c o in
      record { problem = f.problem; cover = f.cover; among = among-more done p f.problem f.among; covers = f.covers; one = f.one })
      (λ (a : IsAmong cover c). record { problem = p; cover = cover; among = among-last done p; covers = covers; one = a }) (gathers.each c h);
  all = λ q h.
      ⊎_elim (λ (d : IsAmong done q). let f = so_far.all q d in (f.0, f.1, λ c a. gathers.kept c (f.2 c a)))
      (λ (e : q ≡ p). (cover, subst (λ (x : Problem). IsTidyCover shape x cover) (sym e) covers, gathers.all)) (among-either done p q h);
  once = gathers.once so_far.once;
}

module _ (shape : ShapeParts) (problems cubes : List Problem) (are : AreGathered shape problems cubes) where
  pub gathered-cubes : AreCubesOfSome shape problems cubes
  gathered-cubes = record {
    fit = all-among (Fits shape) cubes (λ c h. let f = are.each c h in from_known (Fits shape) f.cover f.covers.is.cubes_of.fit f.one.number c f.one.known);
    are_cubes = all-among IsCube cubes (λ c h. let f = are.each c h in from_known IsCube f.cover f.covers.is.cubes_of.are_cubes f.one.number c f.one.known);
    rows = all-among (λ (c : Problem). Any (λ (p : Problem). c.rows ≡ p.rows) problems) cubes
        (λ c h.
        let f = are.each c h in
        any-among (λ (p : Problem). c.rows ≡ p.rows) problems f.problem f.among
        (from_known (λ (x : Problem). x.rows ≡ f.problem.rows) f.cover f.covers.is.cubes_of.rows f.one.number c f.one.known));
  }

  pub gathered-tidy : AreTidy shape cubes
  gathered-tidy = record {
    no_clash = all-among (λ (c : Problem). FactsClash shape.schema c.literals → ⊥) cubes
        (λ c h. let f = are.each c h in from_known (λ (x : Problem). FactsClash shape.schema x.literals → ⊥) f.cover f.covers.tidy.no_clash f.one.number c f.one.known);
    once = all-among (λ (c : Problem). IsOnce c.literals) cubes
        (λ c h. let f = are.each c h in from_known (λ (x : Problem). IsOnce x.literals) f.cover f.covers.tidy.once f.one.number c f.one.known);
  }
