use Rattle.std.proofs.Common.{refl, subst}
use Rattle.std.proofs.lemmas.List.Elements.{All-more}
use Rattle.std.proofs.lemmas.List.{take_all}
use Rattle.ras_sat.specs.Instances.{IsInstance}
use Rattle.ras_sat.proofs.instances.are_instances.Goals as goal

pub loop-instance-preserved : goal.loop-instance-preserved
loop-instance-preserved c =
    All-more (IsInstance c.args.premise.now.rows c.args.formulas.now) c.args.instances.now c.loop-instance.instance-index c.instance-item.result c.loop-instance-test.true c.loop-instance.invariant
    (subst (IsInstance c.args.premise.now.rows c.args.formulas.now) c.instance-item.is (c.is_instance.ensures.0 c.if-not-is_instance.false))

pub returns : goal.returns
returns c =
    (λ _. let ended = c.loop-instance-test.false in let all = c.loop-instance.invariant in rw (take_all c.loop-instance.instance-index c.args.instances.now ended) at all, λ _. refl)
