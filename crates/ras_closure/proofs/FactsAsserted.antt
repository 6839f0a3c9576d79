-- Facts that are asserted one after the other, and what their clash means.
use Rattle.std.proofs.Common.{◌≡◌, ℕ, ◌+◌, ◌<◌, ◌≤◌, length, refl, sym, ◌∙◌, subst, arith, ◌⊎◌, inl, inr, ⊎_elim}
use Rattle.std.specs.Prelude.{slice_get, Some, None, Contains, ◌↔◌}
use Rattle.std.proofs.lemmas.Option.{same_Some}
use Rattle.ras_logic.specs.declared.literal.Literal.{Literal}
use Rattle.ras_logic.specs.declared.literal.Literal.TheVariants.{Equal}
use Rattle.ras_logic.specs.declared.problem.Problem.{Problem}
use Rattle.ras_logic.specs.Shapes.{ShapeParts}
use Rattle.ras_logic.specs.Formulas.{Fits, LiteralFits}
use Rattle.ras_logic.specs.Clashes.{Clash, FactsClash}
use Rattle.ras_logic.proofs.Elements.{from_known, contains-at, at-contains}
use Rattle.ras_logic.proofs.MoreFacts.{clash-more}
use Rattle.ras_closure.specs.Closures.{ClosureParts, IsFactOf, FactsClashIn}
use Rattle.ras_closure.proofs.Sides.{literal-known}
use Rattle.ras_closure.specs.Closings.{IsOfTable, AddsLiteral, IsAmongFirst, HasFirst, IsClosureOf}

module _ (shape : ShapeParts) (facts : Problem) (fits : Fits shape facts) where
  -- a fact is over the terms of its closure
  pub fact-of_table : (n : ℕ) (c : ClosureParts) → HasFirst shape facts n c → (k : ℕ) (l : Literal) → slice_get facts.literals k ≡ Some l → IsOfTable c.table l
  fact-of_table n c first k (Equal left right same) at =
      let known = literal-known shape facts.rows facts.params facts.literals fits.literals k (Equal left right same) at in
      let fit : LiteralFits shape facts.rows facts.params (Equal left right same) = from_known (LiteralFits shape facts.rows facts.params) facts.literals fits.literals k (Equal left right same) at in
      record {
        left = rw (first.shape_is, first.problem_is) known.0;
        right = rw (first.shape_is, first.problem_is) known.2;
        fits = rw (first.shape_is, first.problem_is) fit;
      }

  pub first-added : (n : ℕ) (old new : ClosureParts) (fact : Literal) → HasFirst shape facts n old → slice_get facts.literals n ≡ Some fact → AddsLiteral old new fact
      → (l : Literal) → IsFactOf new l ↔ IsAmongFirst facts.literals (n + 1) l
  first-added n old new fact first at adds l = (
    λ h. ⊎_elim (λ (before : IsFactOf old l). let a = (first.asserted l).0 before in (a.0, omega (arith, a.1), a.2)) (λ (e : l ≡ fact). (n, omega arith, subst (λ (m : Literal). slice_get facts.literals n ≡ Some m) (sym e) at)) ((adds.facts l).0 h),
    λ a. (adds.facts l).1 (⊎_elim (λ (lt : a.0 < n). inl ((first.asserted l).1 (a.0, lt, a.2))) (λ (e : a.0 ≡ n). inr (same_Some l fact (sym a.2 ∙ subst (λ (k : ℕ). slice_get facts.literals k ≡ Some fact) (sym e) at))) (below_or a.0 n a.1)),
  )
    where
      below_or : (k m : ℕ) → k < m + 1 → (k < m) ⊎ (k ≡ m)
      below_or k m lt = grind arith

  pub has-more : (n : ℕ) (old new : ClosureParts) (fact : Literal) → HasFirst shape facts n old → slice_get facts.literals n ≡ Some fact → AddsLiteral old new fact → new.clash ≡ None → HasFirst shape facts (n + 1) new
  has-more n old new fact first at adds none = record {
    shape_is = rw adds.table first.shape_is;
    problem_is = rw adds.table first.problem_is;
    no_clash = none;
    asserted = first-added n old new fact first at adds;
  }

  pub first-clash : (n : ℕ) (old new : ClosureParts) (fact : Literal) → HasFirst shape facts n old → slice_get facts.literals n ≡ Some fact → AddsLiteral old new fact → FactsClashIn new → FactsClash shape.schema facts.literals
  first-clash n old new fact first at adds clash =
      let shape_is : new.table.shape ≡ shape = rw adds.table first.shape_is in
      let problem_is : new.table.problem ≡ facts = rw adds.table first.problem_is in
      let here : Clash shape.schema facts.literals (IsFactOf new) =
      subst (λ (p : Problem). Clash shape.schema p.literals (IsFactOf new)) problem_is (subst (λ (s : ShapeParts). Clash s.schema new.table.problem.literals (IsFactOf new)) shape_is clash) in
      clash-more shape.schema facts.literals facts.literals (λ _ known. known) (IsFactOf new) (Contains facts.literals) (λ l h. let a = (first-added n old new fact first at adds l).0 h in contains-at facts.literals a.0 l a.2) here

  pub has-all : (n : ℕ) (c : ClosureParts) → length facts.literals ≤ n → HasFirst shape facts n c → IsClosureOf shape facts c
  has-all n c ended first = record {
    shape_is = first.shape_is;
    problem_is = first.problem_is;
    no_clash = first.no_clash;
    asserted = λ l. (
      λ h. let a = (first.asserted l).0 h in contains-at facts.literals a.0 l a.2,
      λ h. let a = at-contains facts.literals l h in (first.asserted l).1 (a.0, omega (arith, a.1, ended), a.2),
    );
  }

-- nothing is asserted yet
pub has-none : (facts : Problem) (c : ClosureParts) → c.table.problem ≡ facts → c.clash ≡ None → ((l : Literal) → IsFactOf c l → ⊥)
    → HasFirst c.table.shape facts 0 c
has-none facts c problem_is no_clash none = record {
  shape_is = refl;
  problem_is = problem_is;
  no_clash = no_clash;
  asserted = λ l. (λ h. absurd (none l h), λ a. absurd (omega (arith, a.1)));
}
