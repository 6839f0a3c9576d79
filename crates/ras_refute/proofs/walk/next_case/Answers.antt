use Rattle.std.proofs.Common.{◌+◌, refl}
use Rattle.ras_refute.proofs.Walking.{last-open, next-more, next-last}
use Rattle.ras_refute.proofs.walk.next_case.Goals as goal

pub enter_case-requires-clause-next : goal.enter_case-requires-clause-next
enter_case-requires-clause-next c = (last-open c.args.facts.now.items c.args.splits.now.items c.pop.new.self.items c.in-Some.cases c.in-Some.ensures.items c.requires).1

pub enter_case-requires-clause-small : goal.enter_case-requires-clause-small
enter_case-requires-clause-small c = (last-open c.args.facts.now.items c.args.splits.now.items c.pop.new.self.items c.in-Some.cases c.in-Some.ensures.items c.requires).2

pub returns-else-next-cases : goal.returns-else-next-cases
returns-else-next-cases c =
    next-last c.args.facts.now.items c.args.splits.now.items c.pop.new.self.items c.in-Some.cases c.in-Some.ensures.items c.requires c.enter_case.new.facts.items c.in_ok-enter_case.ensures
    c.if-next-cases.false

pub returns-in_ok-push : goal.returns-in_ok-push
returns-in_ok-push c =
    next-more c.args.facts.now.items c.args.splits.now.items c.pop.new.self.items c.in-Some.cases c.in-Some.ensures.items c.requires c.enter_case.new.facts.items c.in_ok-enter_case.ensures
    (c.in-Some.cases.next + 1) c.push.new.self.items refl c.if-next-cases.true c.in_ok-push.ensures.items
