use Rattle.std.proofs.Common.{◌∙◌, sym, arith}
use Rattle.ras_logic.proofs.Walks.{open_more, first_closed, all_open}
use Rattle.ras_logic.proofs.cycles.first_cycle.Goals as goal

pub loop-k-preserved : goal.loop-k-preserved
loop-k-preserved c = open_more c.args.functions.now c.args.sorts c.loop-k.k _ c.loop-k.invariant (sym c.leads.ensures ∙ c.if-leads.false)

pub returns-then-leads-clause-first : goal.returns-then-leads-clause-first
returns-then-leads-clause-first c =
    first_closed c.args.functions.now c.args.sorts c.loop-k.k _ c.requires.sorts_exist c.loop-k-test.true c.loop-k.invariant (sym c.leads.ensures ∙ c.if-leads.true)

pub returns-clause-none : goal.returns-clause-none
returns-clause-none c = all_open c.args.functions.now c.args.sorts c.loop-k.k c.requires.sorts_exist (omega (arith, c.loop-k-test.false)) c.loop-k.invariant
