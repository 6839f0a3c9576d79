use Rattle.std.proofs.Common.{◌≡◌, sym, ◌∙◌, ap}
use Rattle.std.specs.Prelude.{Some}
use Rattle.ras_split.specs.Standing.{standing, IsOwn}
use Rattle.ras_split.proofs.Owning.{index-standing}
use Rattle.ras_cubes.proofs.Adding.{term-equal, term-added}
use Rattle.ras_cubes.proofs.cubes.add_term.Goals as goal

pub returns-then-equal : goal.returns-then-equal
returns-then-equal c =
    let is = index-standing c.args.closure.now c.known.ensures.closure c.args.terms.now c.args.term.n c.class_of-class.result c.index-terms-class.result c.requires.as_many c.requires.known
    c.class_of-class.ensures.class c.index-terms-class.is in
    let own : IsOwn c.args.closure.now c.args.terms.now c.args.term.n c.in-Some-2.own = rw c.in-Some-2.is at c.in_ok-own.ensures in
    term-equal c.args.closure.now c.known.ensures.table c.args.terms.now c.args.literals.now c.args.term.n c.in-Some-2.own c.in-Some.by own (sym is ∙ c.in-Some.is) (c.equal.ensures.0 c.if-equal.true)

pub returns : goal.returns
returns c =
    let is = index-standing c.args.closure.now c.known.ensures.closure c.args.terms.now c.args.term.n c.class_of-class.result c.index-terms-class.result c.requires.as_many c.requires.known
    c.class_of-class.ensures.class c.index-terms-class.is in
    let own : IsOwn c.args.closure.now c.args.terms.now c.args.term.n c.in-Some-2.own = rw c.in-Some-2.is at c.in_ok-own.ensures in
    rw (c.in_ok-push.ensures.ok, c.in_ok-right.ensures)
    (term-added c.args.closure.now c.known.ensures.table c.args.terms.now c.args.literals.now c.args.term.n c.in-Some-2.own c.in-Some.by own (sym is ∙ c.in-Some.is))
