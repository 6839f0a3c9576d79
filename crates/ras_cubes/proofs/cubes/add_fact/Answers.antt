use Rattle.std.proofs.Common.{◌≡◌, true, false, sym, ◌∙◌, ap}
use Rattle.std.proofs.lemmas.Option.{slice_get_within}
use Rattle.ras_closure.specs.Numbered.{IsAt}
use Rattle.ras_logic.specs.Literals.{left_of, right_of, same_of}
use Rattle.ras_split.specs.Standing.{standing}
use Rattle.ras_split.proofs.Owning.{index-standing}
use Rattle.ras_cubes.proofs.Adding.{fact-no_left, fact-no_right, fact-added}
use Rattle.ras_cubes.proofs.cubes.add_fact.Goals as goal

pub returns-in_default : goal.returns-in_default
returns-in_default c =
    let at_left : IsAt c.args.closure.now.table.terms c.unwrap-left_no.result.n (left_of c.args.fact.now) = rw (← c.left.ensures) (rw c.unwrap-left_no.ensures at c.term.ensures.number) in
    let lt_left = slice_get_within c.args.closure.now.table.terms c.unwrap-left_no.result.n (left_of c.args.fact.now) at_left in
    let is_left = index-standing c.args.closure.now c.known.ensures.closure c.args.terms.now c.unwrap-left_no.result.n c.class_of-left_class.result c.index-terms-left_class.result c.requires.as_many lt_left
    c.class_of-left_class.ensures.class c.index-terms-left_class.is in
    fact-no_left c.args.closure.now c.known.ensures.table c.args.terms.now c.args.literals.now c.args.fact.now c.unwrap-left_no.result.n at_left (sym is_left ∙ c.in_default.is)

pub returns-in_default-terms : goal.returns-in_default-terms
returns-in_default-terms c =
    let at_right : IsAt c.args.closure.now.table.terms c.unwrap-right_no.result.n (right_of c.args.fact.now) = rw (← c.right.ensures) (rw c.unwrap-right_no.ensures at c.term-2.ensures.number) in
    let lt_right = slice_get_within c.args.closure.now.table.terms c.unwrap-right_no.result.n (right_of c.args.fact.now) at_right in
    let is_right = index-standing c.args.closure.now c.known.ensures.closure c.args.terms.now c.unwrap-right_no.result.n c.class_of-right_class.result c.index-terms-right_class.result c.requires.as_many lt_right
    c.class_of-right_class.ensures.class c.index-terms-right_class.is in
    fact-no_right c.args.closure.now c.known.ensures.table c.args.terms.now c.args.literals.now c.args.fact.now c.unwrap-right_no.result.n at_right (sym is_right ∙ c.in_default-terms.is)

pub returns : goal.returns
returns c =
    let at_left : IsAt c.args.closure.now.table.terms c.unwrap-left_no.result.n (left_of c.args.fact.now) = rw (← c.left.ensures) (rw c.unwrap-left_no.ensures at c.term.ensures.number) in
    let lt_left = slice_get_within c.args.closure.now.table.terms c.unwrap-left_no.result.n (left_of c.args.fact.now) at_left in
    let is_left = index-standing c.args.closure.now c.known.ensures.closure c.args.terms.now c.unwrap-left_no.result.n c.class_of-left_class.result c.index-terms-left_class.result c.requires.as_many lt_left
    c.class_of-left_class.ensures.class c.index-terms-left_class.is in
    let at_right : IsAt c.args.closure.now.table.terms c.unwrap-right_no.result.n (right_of c.args.fact.now) = rw (← c.right.ensures) (rw c.unwrap-right_no.ensures at c.term-2.ensures.number) in
    let lt_right = slice_get_within c.args.closure.now.table.terms c.unwrap-right_no.result.n (right_of c.args.fact.now) at_right in
    let is_right = index-standing c.args.closure.now c.known.ensures.closure c.args.terms.now c.unwrap-right_no.result.n c.class_of-right_class.result c.index-terms-right_class.result c.requires.as_many lt_right
    c.class_of-right_class.ensures.class c.index-terms-right_class.is in
    rw (c.in_ok-push.ensures.ok, c.in_ok-left.ensures, c.in_ok-right.ensures)
    (fact-added c.args.closure.now c.known.ensures.table c.args.terms.now c.args.literals.now c.args.fact.now c.unwrap-left_no.result.n c.unwrap-right_no.result.n c.in-Some.left_by c.in-Some-terms.right_by
    (sym c.says_same.ensures ∙ c.if-says_same.false) at_left at_right (sym is_left ∙ c.in-Some.is) (sym is_right ∙ c.in-Some-terms.is))
