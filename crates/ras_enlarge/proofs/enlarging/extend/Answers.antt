use Rattle.std.proofs.Common.{◌≡◌, ℕ, List, [], length, refl, sym, ◌∙◌, ap, subst}
use Rattle.std.specs.Prelude.{slice_get, Some, None, Option, MatchOption}
use Rattle.ras_logic.specs.declared.values.Values.{Values}
use Rattle.ras_logic.specs.Clashes.{FactsClash}
use Rattle.ras_closure.specs.declared.model.Model.{Model}
use Rattle.ras_closure.specs.Closings.{IsClosureOf}
use Rattle.ras_cover.specs.Covers.{bare, HasExtension, IsExtension}
use Rattle.ras_split.specs.Standing.{CaseParts}
use Rattle.ras_cover.proofs.CoverLaws.{case-in}
use Rattle.ras_enlarge.specs.Enlarged.{IsCaseOver, AreMissed, IsExtensionOfSome}
use Rattle.ras_enlarge.proofs.Extended.{ok-if, option-if, case-over, missed-no_extension, some-extension, clash-no_extension, none-of_cover}
use Rattle.ras_enlarge.proofs.enlarging.extend.Goals as goal

pub returns-in_default-clause-extension : goal.returns-in_default-clause-extension
returns-in_default-clause-extension c =
    let clash : FactsClash c.args.shape.now.schema c.args.problem.now.literals = rw c.in_default.is at c.in_ok-closure.ensures in
    clash-no_extension c.args.shape.now c.known.ensures.shape c.args.problem.now c.requires.fits clash c.args.db.now c.args.values.now

pub returns-in_default-clause-none : goal.returns-in_default-clause-none
returns-in_default-clause-none c =
    let clash : FactsClash c.args.shape.now.schema c.args.problem.now.literals = rw c.in_default.is at c.in_ok-closure.ensures in
    none-of_cover c.args.shape.now c.args.problem.now c.args.db.now c.args.values.now c.requires.database c.requires.values None
    (clash-no_extension c.args.shape.now c.known.ensures.shape c.args.problem.now c.requires.fits clash c.args.db.now c.args.values.now)

pub enlarge_first-requires : goal.enlarge_first-requires
enlarge_first-requires c = record {
  cases = λ k e known.
      let of : IsClosureOf c.args.shape.now c.args.problem.now c.in-Some.closure = rw c.in-Some.is at c.in_ok-closure.ensures in
      let here : slice_get c.in_ok-cases.cases k ≡ Some e = subst (λ (xs : List CaseParts). slice_get xs k ≡ Some e) c.as_slice.ensures.items known in (
        subst (λ (v : Values). IsCaseOver e c.args.db.now v) (sym c.in_ok-bare.ensures) (case-over c.args.shape.now c.args.problem.now c.in-Some.closure of c.in_ok-cases.cases c.in_ok-cases.ensures c.args.db.now c.args.values.now c.requires.database c.requires.values e (record { number = k; known = here })),
        (case-in c.args.shape.now c.args.problem.now c.in-Some.closure of c.in_ok-cases.cases c.in_ok-cases.ensures e (record { number = k; known = here })).problem_is,
      );
}

pub returns-clause-extension : goal.returns-clause-extension
returns-clause-extension c =
    let of : IsClosureOf c.args.shape.now c.args.problem.now c.in-Some.closure = rw c.in-Some.is at c.in_ok-closure.ensures in
    let answer = ok-if c.enlarge_first.result c.enlarge_first.ensures
    (λ (o : Option Model) found. option-if o found
    (λ missed. missed-no_extension c.args.shape.now c.args.problem.now c.in-Some.closure of c.in_ok-cases.cases c.in_ok-cases.ensures c.args.db.now c.args.values.now c.requires.database c.requires.values
    (subst (λ (v : Values). AreMissed c.in_ok-cases.cases (length c.in_ok-cases.cases) c.args.db.now v) c.in_ok-bare.ensures
    (subst (λ (xs : List CaseParts). AreMissed xs (length xs) c.args.db.now c.in_ok-bare.bare) c.as_slice.ensures.items missed)))
    (λ (m : Model) some. some-extension c.args.shape.now c.args.problem.now c.in-Some.closure of c.in_ok-cases.cases c.in_ok-cases.ensures c.args.db.now c.args.values.now c.requires.database c.requires.values m.db m.values
    (subst (λ (v : Values). IsExtensionOfSome c.in_ok-cases.cases c.args.problem.now c.args.db.now v m.db m.values) c.in_ok-bare.ensures
    (subst (λ (xs : List CaseParts). IsExtensionOfSome xs c.args.problem.now c.args.db.now c.in_ok-bare.bare m.db m.values) c.as_slice.ensures.items some)))) in
    answer

pub returns-clause-none : goal.returns-clause-none
returns-clause-none c =
    let of : IsClosureOf c.args.shape.now c.args.problem.now c.in-Some.closure = rw c.in-Some.is at c.in_ok-closure.ensures in
    let answer = ok-if c.enlarge_first.result c.enlarge_first.ensures
    (λ (o : Option Model) found. option-if o found
    (λ missed. missed-no_extension c.args.shape.now c.args.problem.now c.in-Some.closure of c.in_ok-cases.cases c.in_ok-cases.ensures c.args.db.now c.args.values.now c.requires.database c.requires.values
    (subst (λ (v : Values). AreMissed c.in_ok-cases.cases (length c.in_ok-cases.cases) c.args.db.now v) c.in_ok-bare.ensures
    (subst (λ (xs : List CaseParts). AreMissed xs (length xs) c.args.db.now c.in_ok-bare.bare) c.as_slice.ensures.items missed)))
    (λ (m : Model) some. some-extension c.args.shape.now c.args.problem.now c.in-Some.closure of c.in_ok-cases.cases c.in_ok-cases.ensures c.args.db.now c.args.values.now c.requires.database c.requires.values m.db m.values
    (subst (λ (v : Values). IsExtensionOfSome c.in_ok-cases.cases c.args.problem.now c.args.db.now v m.db m.values) c.in_ok-bare.ensures
    (subst (λ (xs : List CaseParts). IsExtensionOfSome xs c.args.problem.now c.args.db.now c.in_ok-bare.bare m.db m.values) c.as_slice.ensures.items some)))) in
    ok-if c.enlarge_first.result answer (λ (o : Option Model) h. none-of_cover c.args.shape.now c.args.problem.now c.args.db.now c.args.values.now c.requires.database c.requires.values o h)
