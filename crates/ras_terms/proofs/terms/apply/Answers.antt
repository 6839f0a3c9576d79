use Rattle.std.proofs.Common.{List, ◌+◌, ◌≤◌, sym, subst, length, arith}
use Rattle.ras_logic.specs.declared.ids.FunId.{FunId}
use Rattle.ras_terms.specs.declared.terms.Meaning.TheVariants.{Sorted}
use Rattle.ras_terms.proofs.InsideOut.{AreApplied, AreAllApplied, before_last, applied_none, applied_more, applied_stop, applied_end}
use Rattle.ras_terms.proofs.terms.apply.Goals as goal

pub loop-i-init : goal.loop-i-init
loop-i-init c = subst (λ (path : List FunId). AreApplied c.args.start c.args.called.now 0 path c.args.start) (sym c.new-path.ensures) (applied_none c.args.start c.args.called.now)

pub loop-i-preserved : goal.loop-i-preserved
loop-i-preserved c =
    let called = c.args.called.now in
    subst (λ (path : List FunId). AreApplied c.args.start called (c.loop-i.i + 1) path (before_last called c.loop-i.i).decl.target) (sym c.in_ok-push.ensures.ok)
    (applied_more c.args.start called c.loop-i.i c.loop-i.path c.loop-i.sort c.loop-i-test.true c.loop-i.invariant (sym c.if-ne.ensures))

pub returns-then-ne-clause-checks : goal.returns-then-ne-clause-checks
returns-then-ne-clause-checks c =
    rw c.fault.ensures (applied_stop c.args.start c.args.called.now c.loop-i.i c.loop-i.path c.loop-i.sort c.loop-i-test.true c.loop-i.invariant (sym c.if-ne.ensures))

pub returns-clause-checks : goal.returns-clause-checks
returns-clause-checks c =
    let done : length c.args.called.now ≤ c.loop-i.i = omega (arith, c.loop-i-test.false) in
    (applied_end c.args.start c.args.called.now c.loop-i.i c.loop-i.path c.loop-i.sort done c.loop-i.invariant).passes

pub returns-clause-value : goal.returns-clause-value
returns-clause-value c =
    let done : length c.args.called.now ≤ c.loop-i.i = omega (arith, c.loop-i-test.false) in
    let all : AreAllApplied c.args.start c.args.called.now c.loop-i.path c.loop-i.sort = applied_end c.args.start c.args.called.now c.loop-i.i c.loop-i.path c.loop-i.sort done c.loop-i.invariant in
    λ i. Sorted (record { base = c.args.base; path = all.functions i }) (all.sort_is i)
