use Rattle.std.proofs.Common.{arith, add-one}
use Rattle.ras_logic.proofs.Leading.{marked_first, marked_step, set_marks}
use Rattle.ras_logic.proofs.cycles.leads.Goals as goal

pub loop-round-init : goal.loop-round-init
loop-round-init g c = λ s h. marked_first g.A.Arrow.source g.A.Arrow.target c.args.functions.now c.args.to s c.requires.to h

pub loop-round-preserved : goal.loop-round-preserved
loop-round-preserved g c = λ s h. rw add-one (marked_step g.A.Arrow.source g.A.Arrow.target c.args.functions.now c.loop-round.marked c.sources_of-marked.result _ c.loop-round.round s c.args.to
    (λ k d lt. (c.requires.functions k d lt).1) c.loop-round.invariant (c.sources_of-marked.ensures s h)
    (set_marks c.sources_of-marked.result c.args.to s (omega (arith, c.sources_of-marked.type_inv, c.requires.to))))
