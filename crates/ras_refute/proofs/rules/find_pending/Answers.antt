use Rattle.std.proofs.Common.{arith}
use Rattle.ras_refute.proofs.Due.{pending-due, closed-or-due}
use Rattle.ras_refute.proofs.rules.find_pending.Goals as goal

pub returns-in-Some : goal.returns-in-Some
returns-in-Some c =
    (c.requires.first, pending-due c.args.schema.now c.args.facts.now c.args.table.now c.args.classes.now c.in-Some.pair c.requires.table.numbers c.in-Some.ensures)

pub returns-in-Some-find_pending_among : goal.returns-in-Some-find_pending_among
returns-in-Some-find_pending_among c = (omega (arith, c.in-Some-find_pending_among.ensures.0, c.len-end.ensures.count), c.in-Some-find_pending_among.ensures.1 c.args.facts.now)

pub returns : goal.returns
returns c =
    closed-or-due c.args.schema.now c.args.facts.now c.args.table.now c.args.classes.now c.args.first c.find_pending_among-2.result c.requires.first c.in_default.ensures
    (rw (← c.len-end.ensures.count) c.in_default-find_pending_among.ensures) c.find_pending_among-2.ensures
