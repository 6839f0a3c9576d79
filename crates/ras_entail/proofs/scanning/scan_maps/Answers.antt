use Rattle.std.proofs.Common.{sym, ◌∙◌}
use Rattle.ras_entail.specs.Scans.{AddsMap, IsHeld}
use Rattle.ras_entail.proofs.Enough.{maps-more, of-none}
use Rattle.ras_entail.proofs.scanning.scan_maps.Goals as goal

pub loop-rows-preserved : goal.loop-rows-preserved
loop-rows-preserved c =
    let k = c.args.known.now in
    maps-more k.shape.now k.premise.now c.args.cube.now c.args.formula c.loop-rows.yielded c.in-Some.rows c.args.instances.now.items c.loop-rows.instances.items c.scan_map.new.instances.items c.loop-rows.invariant
    (of-none c.in_ok-held.held (AddsMap k.shape.now k.premise.now c.args.cube.now c.args.formula c.in-Some.rows c.loop-rows.instances.items c.scan_map.new.instances.items)
    (IsHeld k.shape.now k.premise.now c.args.cube.now c.args.formula) (sym c.is_some.ensures ∙ c.if-is_some.false) c.in_ok-held.ensures)
