use Rattle.std.proofs.Common.{◌≡◌, List, get_or, refl, subst, ◌<◌, length, ap, ◌∙◌}
use Rattle.ras_logic.specs.declared.literal.Literal.{Literal}
use Rattle.ras_logic.specs.Formulas.{replace}
use Rattle.ras_logic.specs.Refutations.{chosen_row}
use Rattle.ras_logic.proofs.AllSteps.{all_step, all_done}
use Rattle.ras_subsumption.specs.Subsumption.{HoldsWherever}
use Rattle.ras_subsumption.proofs.holding.all_hold_under.Goals as goal

pub loop-literal-preserved : goal.loop-literal-preserved
loop-literal-preserved c =
    let k = c.args.known.now in
    let P : Literal → Type 0 = λ l. HoldsWherever k.shape.now k.premise.now (replace (chosen_row c.args.map.now) l) in
    let items : c.literals-literal-items.result.now ≡ c.args.cube.now.literals = c.literals-literal-items.ensures in
    all_step P c.args.cube.now.literals c.loop-literal.literal-index c.literal-item.result
    (subst (λ (ls : List Literal). c.loop-literal.literal-index < length ls) items c.loop-literal-test.true)
    (c.literal-item.is ∙ ap (λ (ls : List Literal). get_or ls c.loop-literal.literal-index c.literal-item.result) items)
    c.loop-literal.invariant
    (subst (λ (l : Literal). HoldsWherever k.shape.now k.premise.now l) c.in_ok-literal.ensures (c.in_ok-holds_wherever.ensures.0 c.if-not-branch.false))

pub returns : goal.returns
returns c =
    let k = c.args.known.now in
    let P : Literal → Type 0 = λ l. HoldsWherever k.shape.now k.premise.now (replace (chosen_row c.args.map.now) l) in
    let items : c.literals-literal-items.result.now ≡ c.args.cube.now.literals = c.literals-literal-items.ensures in (
      λ _. all_done P c.args.cube.now.literals c.loop-literal.literal-index (rw (← items) c.loop-literal-test.false) c.loop-literal.invariant,
      λ _. refl,
    )
