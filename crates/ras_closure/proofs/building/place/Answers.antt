use Rattle.ras_closure.proofs.Pushing.{part-push, grows-push, pushed-at}
use Rattle.ras_closure.proofs.building.place.Goals as goal

pub returns-clause-part : goal.returns-clause-part
returns-clause-part c =
    rw (c.in_ok-append.ensures.terms, c.in_ok-append.ensures.links)
    (part-push c.args.schema.now c.args.problem.now.literals c.args.terms.now c.args.links.now c.requires.part c.args.term c.requires.known c.in_default.ensures c.args.link c.requires.fits c.in_ok-append.ensures.few)

pub returns-clause-grows : goal.returns-clause-grows
returns-clause-grows c = λ i t at. rw c.in_ok-append.ensures.terms (grows-push c.args.terms.now c.args.term t i at)

pub returns-clause-place : goal.returns-clause-place
returns-clause-place c = rw (c.in_ok-append.ensures.terms, c.len-i.ensures.count) (pushed-at c.args.terms.now c.args.term)
