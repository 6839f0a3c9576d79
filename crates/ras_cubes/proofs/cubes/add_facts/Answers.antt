use Rattle.std.proofs.Common.{◌≡◌, ℕ, ◌≤◌, sym, ◌∙◌, ap, subst, length, arith, refl}
use Rattle.std.specs.Prelude.{slice_get, Some}
use Rattle.std.proofs.lemmas.Option.{slice_get_read}
use Rattle.ras_logic.specs.declared.problem.Problem.{Problem}
use Rattle.ras_cubes.specs.Dues.{AddsDue, IsDueTo, IsFactDue}
use Rattle.ras_cubes.proofs.Adding.{due-start, due-on, fact-at, sides-terms}
use Rattle.ras_cubes.proofs.cubes.add_facts.Goals as goal

pub loop-fact-init : goal.loop-fact-init
loop-fact-init c = due-start (IsFactDue c.args.closure.now c.args.terms.now) c.args.literals.now

pub add_fact-requires-clause-sides : goal.add_fact-requires-clause-sides
add_fact-requires-clause-sides c =
    let at : slice_get c.args.problem.now.literals c.loop-fact.fact-index ≡ Some c.fact-item.result =
    rw (← c.as_slice-fact-items.ensures.items)
    (slice_get_read c.as_slice-fact-items.result.now (length c.as_slice-fact-items.result.now) c.loop-fact.fact-index c.fact-item.result refl c.loop-fact-test.true c.fact-item.is) in
    let here : slice_get c.args.closure.now.table.problem.literals c.loop-fact.fact-index ≡ Some c.fact-item.result =
    subst (λ (p : Problem). slice_get p.literals c.loop-fact.fact-index ≡ Some c.fact-item.result) (sym c.requires.problem) at in
    sides-terms c.args.closure.now c.known.ensures.table c.loop-fact.fact-index c.fact-item.result here

pub loop-fact-preserved : goal.loop-fact-preserved
loop-fact-preserved c =
    let at : slice_get c.args.problem.now.literals c.loop-fact.fact-index ≡ Some c.fact-item.result =
    rw (← c.as_slice-fact-items.ensures.items)
    (slice_get_read c.as_slice-fact-items.result.now (length c.as_slice-fact-items.result.now) c.loop-fact.fact-index c.fact-item.result refl c.loop-fact-test.true c.fact-item.is) in
    let here : slice_get c.args.closure.now.table.problem.literals c.loop-fact.fact-index ≡ Some c.fact-item.result =
    subst (λ (p : Problem). slice_get p.literals c.loop-fact.fact-index ≡ Some c.fact-item.result) (sym c.requires.problem) at in
    due-on (IsFactDue c.args.closure.now c.args.terms.now) c.loop-fact.fact-index c.args.literals.now c.loop-fact.literals c.add_fact.new.literals c.loop-fact.invariant
    (fact-at c.args.closure.now c.args.terms.now c.loop-fact.fact-index c.fact-item.result c.loop-fact.literals c.add_fact.new.literals here c.in_ok-add_fact.ensures)

pub returns : goal.returns
returns c =
    let n : length c.as_slice-fact-items.result.now ≡ length c.args.problem.now.literals = ap (λ xs. length xs) c.as_slice-fact-items.ensures.items in
    let ge = c.loop-fact-test.false in let le = c.loop-fact.auto.fact-index-end in
    let same : c.loop-fact.fact-index ≡ length c.args.problem.now.literals = omega arith in
    subst (λ (m : ℕ). AddsDue (IsDueTo (IsFactDue c.args.closure.now c.args.terms.now) m) c.args.literals.now c.loop-fact.literals) same c.loop-fact.invariant
