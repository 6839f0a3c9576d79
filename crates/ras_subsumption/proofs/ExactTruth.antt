-- What a closure tells exactly of literals about its terms.
use Rattle.std.proofs.Common.{◌≡◌, ℕ, Bool, true, false, nat_eq, get_or, refl, sym, subst, inl, inr, ⊎_elim}
use Rattle.std.specs.Prelude.{◌↔◌, Some, IsTrue, not}
use Rattle.std.proofs.lemmas.Bool.{eqb-true, eq-eqb, not-true}
use Rattle.std.proofs.lemmas.List.Elements.{Contains-get_or}
use Rattle.ras_logic.specs.declared.ids.SortId.{SortId}
use Rattle.ras_logic.specs.declared.raw_db.RawDb.{RawDb}
use Rattle.ras_logic.specs.declared.values.Values.{Values}
use Rattle.ras_logic.specs.declared.term.Term.{Term}
use Rattle.ras_logic.specs.declared.literal.Literal.{Literal}
use Rattle.ras_logic.specs.declared.literal.Literal.TheVariants.{Equal}
use Rattle.ras_logic.specs.declared.problem.Problem.{Problem}
use Rattle.ras_logic.specs.Shapes.{ShapeParts}
use Rattle.ras_logic.specs.Databases.{IsDatabase}
use Rattle.ras_logic.specs.Literals.{left_of, right_of, same_of}
use Rattle.ras_logic.specs.Formulas.{LiteralFits}
use Rattle.ras_logic.specs.Terms.{sort_of}
use Rattle.ras_logic.specs.Truth.{AreValues, Satisfies, value, holds}
use Rattle.ras_closure.specs.declared.term_no.TermNo.{TermNo}
use Rattle.ras_closure.specs.Numbered.{IsTable, IsAt, IsSortOf}
use Rattle.ras_closure.specs.Classes.{class}
use Rattle.ras_closure.specs.Closures.{ClosureParts, IsClosure, IsFactOf, IsLiteralOf, AddsFact, AreTogetherIn, AreOfOneSort, HasNoModel, EachHolds}
use Rattle.ras_closure.specs.Closings.{IsClosureOf}
use Rattle.ras_closure.proofs.Existence.{a_model}
use Rattle.ras_closure.proofs.Merges.{at-same}
use Rattle.ras_known.specs.declared.known.Sides.{Sides}
use Rattle.ras_known.specs.Knowledge.{DifferWherever, AreKeptApart}
use Rattle.ras_known.proofs.KnownTruth.{same-value, facts-hold}
use Rattle.ras_known.proofs.FactModels.{model-facts}
use Rattle.ras_subsumption.specs.Subsumption.{HoldsWherever}

module _ (shape : ShapeParts) (premise : Problem) (c : ClosureParts) (of : IsClosureOf shape premise c) (table : IsTable c.table) (closure : IsClosure c) where
  premise-sort : (s : Term) (u : SortId) → IsSortOf c.table s u → sort_of shape premise.rows premise.params s ≡ Some u
  premise-sort s u h =
      subst (λ (p : Problem). sort_of shape p.rows p.params s ≡ Some u) of.problem_is
      (subst (λ (w : ShapeParts). sort_of w c.table.problem.rows c.table.problem.params s ≡ Some u) of.shape_is h)

  -- terms that have one value wherever the premise holds are together
  value-together : (i j : ℕ) (s t : Term) (u : SortId) → IsAt c.table.terms i s → IsAt c.table.terms j t → IsSortOf c.table s u → IsSortOf c.table t u
      → ((d : RawDb) (v : Values) → IsDatabase shape.schema d → Satisfies shape d v premise → value d v s ≡ value d v t) → AreTogetherIn c s t
  value-together i j s t u at_s at_t sort_s sort_t equal =
      let m = a_model c table closure of.no_clash in
      let facts = model-facts shape premise c m.0 m.1 of m.2 in
      closure.partial.sound i j s t at_s at_t (m.2.apart i j s t u at_s at_t sort_s sort_t (equal m.0 m.1 facts.database facts.satisfies))

  -- a literal that says same holds wherever the premise does exactly where its sides are together
  pub same-exact : (l : Literal) → same_of l ≡ true → LiteralFits c.table.shape c.table.problem.rows c.table.problem.params l → (i j : ℕ) → IsAt c.table.terms i (left_of l) → IsAt c.table.terms j (right_of l)
      → (b : Bool) → IsTrue b ↔ AreTogetherIn c (left_of l) (right_of l) → IsTrue b ↔ HoldsWherever shape premise l
  same-exact (Equal s t false) says fits i j at_s at_t b both = absurd (cc)
  same-exact (Equal s t true) says fits i j at_s at_t b both = (
    λ h d v db sat. eq-eqb (value d v s) (value d v t) (same-value shape premise c of table closure d v db sat s t (both.0 h)),
    λ h. both.1 (value-together i j s t fits.0 at_s at_t fits.1 fits.2 (λ d v db sat. eqb-true (value d v s) (value d v t) (h d v db sat))),
  )

  -- a literal that says not same holds wherever the premise does exactly where its sides differ there
  pub apart-exact : (l : Literal) → same_of l ≡ false → (b : Bool) → IsTrue b ↔ DifferWherever shape premise (left_of l) (right_of l) → IsTrue b ↔ HoldsWherever shape premise l
  apart-exact (Equal s t true) says b both = absurd (cc)
  apart-exact (Equal s t false) says b both = (
    λ h d v db sat. differ (nat_eq (value d v s) (value d v t)) (nat_eq (value d v s) (value d v t)) refl (λ e. both.0 h d v db sat (eqb-true (value d v s) (value d v t) e)),
    λ h. both.1 (λ d v db sat e. let no = not-true (nat_eq (value d v s) (value d v t)) (h d v db sat) in let yes = eq-eqb (value d v s) (value d v t) e in absurd (cc (no, yes))),
  )
    where
      differ : (b c : Bool) → c ≡ b → (b ≡ true → ⊥) → IsTrue (not c)
      differ true c e h = absurd (h refl)
      differ false c e h = rw e refl

  -- one fact more, that two terms are the same
  module _ (new : ClosureParts) (i j : TermNo) (adds : AddsFact c new true i j) (s t : Term) (at_s : IsAt c.table.terms i.n s) (at_t : IsAt c.table.terms j.n t) where
    supposed-holds : (d : RawDb) (v : Values) → IsDatabase shape.schema d → Satisfies shape d v premise → value d v s ≡ value d v t → EachHolds d v (IsFactOf new)
    supposed-holds d v db sat e l fact =
        ⊎_elim (λ (old : IsFactOf c l). facts-hold shape premise c of table closure d v db sat l old)
        (λ (is : IsLiteralOf c true i j l).
        let one : is.0 ≡ s = at-same c.table.terms i.n is.0 s is.2 at_s in
        let two : is.1 ≡ t = at-same c.table.terms j.n is.1 t is.3 at_t in
        subst (λ (m : Literal). IsTrue (holds d v m)) (sym is.4) (eq-eqb (value d v is.0) (value d v is.1) (rw (one, two) e)))
        ((adds.facts l).0 fact)

    -- nothing satisfies the premise with this fact exactly where the terms differ wherever the premise holds
    pub no_model-differ : HasNoModel new → DifferWherever shape premise s t
    no_model-differ none d v db sat e =
        none d v (rw (adds.table, of.shape_is) db) (rw (adds.table, of.shape_is, of.problem_is) sat.values) (supposed-holds d v db sat e)

    pub differ-no_model : DifferWherever shape premise s t → HasNoModel new
    differ-no_model differ d v db values hold =
        let database : IsDatabase shape.schema d = rw (adds.table, of.shape_is) at db in
        let own : AreValues shape d premise.rows premise.params v = rw (adds.table, of.shape_is, of.problem_is) at values in
        differ d v database
        (record {
          values = own;
          literals = λ k l lt. hold (get_or premise.literals k l) ((adds.facts (get_or premise.literals k l)).1 (inl ((of.asserted (get_or premise.literals k l)).1 (Contains-get_or premise.literals k l lt))));
        })
        (eqb-true (value d v s) (value d v t) (hold (Equal s t true) ((adds.facts (Equal s t true)).1 (inr (s, t, at_s, at_t, refl)))))

  -- what is kept apart differs
  pub apart-differ : (i j : TermNo) → AreOfOneSort c i j → (sides : Sides) → class c.classes i.n ≡ sides.left → class c.classes j.n ≡ sides.right → AreKeptApart shape premise c sides
      → (s t : Term) → IsAt c.table.terms i.n s → IsAt c.table.terms j.n t → DifferWherever shape premise s t
  apart-differ i j one_sort sides left right apart s t at_s at_t =
      let sorted = one_sort.both s t at_s at_t in
      apart s t sorted.0 (premise-sort s sorted.0 sorted.1) (premise-sort t sorted.0 sorted.2) (record { number = i.n; known = at_s; of_class = left }) (record { number = j.n; known = at_t; of_class = right })
