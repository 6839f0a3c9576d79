use Rattle.std.proofs.Common.{sym, ◌∙◌}
use Rattle.std.specs.Prelude.{◌↔◌, IsTrue}
use Rattle.std.proofs.lemmas.Result.{IfOk-weaker}
use Rattle.ras_logic.specs.Literals.{left_of, right_of}
use Rattle.ras_closure.specs.Numbered.{IsAt}
use Rattle.ras_subsumption.specs.Subsumption.{HoldsWherever}
use Rattle.ras_subsumption.proofs.ExactTruth.{same-exact, apart-exact}
use Rattle.ras_subsumption.proofs.holding.holds_wherever.Goals as goal

pub returns-then-says_same : goal.returns-then-says_same
returns-then-says_same c =
    let k = c.args.known.now in
    let at_left : IsAt k.closure.now.table.terms c.unwrap-left.result.n (left_of c.args.literal.now) = rw (← c.left.ensures) (rw c.unwrap-left.ensures at c.term.ensures.number) in
    let at_right : IsAt k.closure.now.table.terms c.unwrap-right.result.n (right_of c.args.literal.now) = rw (← c.right.ensures) (rw c.unwrap-right.ensures at c.term-2.ensures.number) in
    same-exact k.shape.now k.premise.now k.closure.now c.requires.known.closure c.known.ensures.table c.known.ensures.closure c.args.literal.now (sym c.says_same.ensures ∙ c.if-says_same.true)
    c.requires.of_table.fits c.unwrap-left.result.n c.unwrap-right.result.n at_left at_right c.same.result (c.same.ensures (left_of c.args.literal.now) (right_of c.args.literal.now) at_left at_right)

pub returns : goal.returns
returns c =
    let k = c.args.known.now in
    let l = c.args.literal.now in
    let at_left : IsAt k.closure.now.table.terms c.unwrap-left.result.n (left_of l) = rw (← c.left.ensures) (rw c.unwrap-left.ensures at c.term.ensures.number) in
    let at_right : IsAt k.closure.now.table.terms c.unwrap-right.result.n (right_of l) = rw (← c.right.ensures) (rw c.unwrap-right.ensures at c.term-2.ensures.number) in
    IfOk-weaker c.differ_wherever.result
    _
    (λ b. IsTrue b ↔ HoldsWherever k.shape.now k.premise.now l)
    (λ b both. apart-exact k.shape.now k.premise.now k.closure.now c.requires.known.closure c.known.ensures.table c.known.ensures.closure l (sym c.says_same.ensures ∙ c.if-says_same.false) b (both (left_of l) (right_of l) at_left at_right))
    c.differ_wherever.ensures
