use Rattle.std.proofs.Common.{◌≡◌, [], length, get_or, refl, sym, ◌∙◌}
use Rattle.std.proofs.lemmas.Option.{slice_get_read, get_or_from_slice_get}
use Rattle.ras_sat.proofs.Choosing.{best-more}
use Rattle.ras_sat.proofs.choice.choose.Goals as goal

pub loop-instance-preserved : goal.loop-instance-preserved
loop-instance-preserved c =
    let at : get_or c.args.task.now.opposites.now c.loop-instance.instance [] ≡ c.as_slice.result.now =
    get_or_from_slice_get c.args.task.now.opposites.now c.loop-instance.instance c.opposites-item.result []
    (slice_get_read c.args.task.now.opposites.now (length c.args.task.now.opposites.now) c.loop-instance.instance c.opposites-item.result refl c.loop-instance-test.true c.opposites-item.is)
    ∙ sym c.as_slice.ensures.items in
    best-more c.args.model.now c.args.task.now.opposites.now c.loop-instance.instance c.as_slice.result.now c.loop-instance.best c.consider-best.result c.loop-instance-test.true at c.loop-instance.invariant c.consider-best.ensures
