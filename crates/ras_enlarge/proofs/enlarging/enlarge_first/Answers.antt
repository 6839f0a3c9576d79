use Rattle.std.proofs.Common.{◌≡◌, ℕ, ◌<◌, length, refl, sym, ◌∙◌, ap, subst, ⊎_elim}
use Rattle.std.specs.Prelude.{slice_get, Some}
use Rattle.std.proofs.lemmas.Option.{slice_get_read, same_Some}
use Rattle.ras_closure.proofs.Cases.{below_or_same}
use Rattle.ras_split.specs.Standing.{CaseParts}
use Rattle.ras_enlarge.specs.Enlarged.{IsMissed}
use Rattle.ras_enlarge.proofs.enlarging.enlarge_first.Goals as goal

pub enlarge_case-requires-clause-problem : goal.enlarge_case-requires-clause-problem
enlarge_case-requires-clause-problem c =
    let there : slice_get c.args.cases.now c.loop-case.case-index ≡ Some c.case-item.result =
    slice_get_read c.args.cases.now (length c.args.cases.now) c.loop-case.case-index c.case-item.result refl c.loop-case-test.true c.case-item.is in
    (c.requires.cases c.loop-case.case-index c.case-item.result there).1

pub enlarge_case-requires-clause-case : goal.enlarge_case-requires-clause-case
enlarge_case-requires-clause-case c =
    let there : slice_get c.args.cases.now c.loop-case.case-index ≡ Some c.case-item.result =
    slice_get_read c.args.cases.now (length c.args.cases.now) c.loop-case.case-index c.case-item.result refl c.loop-case-test.true c.case-item.is in
    (c.requires.cases c.loop-case.case-index c.case-item.result there).0

pub returns-in-Some : goal.returns-in-Some
returns-in-Some c =
    let there : slice_get c.args.cases.now c.loop-case.case-index ≡ Some c.case-item.result =
    slice_get_read c.args.cases.now (length c.args.cases.now) c.loop-case.case-index c.case-item.result refl c.loop-case-test.true c.case-item.is in
    record { one = c.case-item.result; among = record { number = c.loop-case.case-index; known = there }; extension = rw c.in-Some.is at c.in_ok-model.ensures }

pub loop-case-preserved : goal.loop-case-preserved
loop-case-preserved c k e lt known =
    let there : slice_get c.args.cases.now c.loop-case.case-index ≡ Some c.case-item.result =
    slice_get_read c.args.cases.now (length c.args.cases.now) c.loop-case.case-index c.case-item.result refl c.loop-case-test.true c.case-item.is in
    let missed : IsMissed c.args.db.now c.args.values.now c.case-item.result = rw c.in_default.is at c.in_ok-model.ensures in
    ⊎_elim (λ (below : k < c.loop-case.case-index). c.loop-case.invariant k e below known)
    (λ (here : k ≡ c.loop-case.case-index).
    subst (λ (x : CaseParts). IsMissed c.args.db.now c.args.values.now x)
    (same_Some c.case-item.result e (sym there ∙ subst (λ (m : ℕ). slice_get c.args.cases.now m ≡ Some e) here known)) missed) (below_or_same k c.loop-case.case-index lt)
