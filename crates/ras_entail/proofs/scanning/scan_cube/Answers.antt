use Rattle.std.proofs.Common.{◌≡◌, List, sym, ◌∙◌, ap, subst}
use Rattle.std.specs.Prelude.{slice_get, Some, MatchOption}
use Rattle.std.proofs.lemmas.Bool.{OnTrue_at}
use Rattle.std.proofs.lemmas.Result.{IfOk-weaker}
use Rattle.std.proofs.lemmas.Option.{slice_get-get_or}
use Rattle.ras_logic.specs.declared.ids.RelId.{RelId}
use Rattle.ras_logic.specs.declared.problem.Problem.{Problem}
use Rattle.ras_logic.specs.Formulas.{Fits}
use Rattle.ras_logic.proofs.Elements.{from_known}
use Rattle.ras_row_maps.specs.RowMaps.{AreRowMaps}
use Rattle.ras_entail.specs.Scans.{AddsMaps, AddsInstances, IsHeld, IsHeldIn}
use Rattle.ras_entail.proofs.Enough.{none-added, cube-scanned}
use Rattle.ras_entail.proofs.scanning.scan_cube.Goals as goal

pub has_failing-requires-clause-fits : goal.has_failing-requires-clause-fits
has_failing-requires-clause-fits c =
    let known : slice_get c.args.list.now c.args.number ≡ Some c.get-cube.result.now =
    rw c.get-cube.ensures (slice_get-get_or c.args.list.now c.args.number c.index-list-number.result c.requires.within ∙ sym (ap (λ (p : Problem). Some p) c.index-list-number.is)) in
    from_known (Fits c.args.known.now.shape.now) c.args.list.now c.requires.fit c.args.number c.get-cube.result.now known

pub returns-then-has_failing : goal.returns-then-has_failing
returns-then-has_failing c =
    let known : slice_get c.args.list.now c.args.number ≡ Some c.get-cube.result.now =
    rw c.get-cube.ensures (slice_get-get_or c.args.list.now c.args.number c.index-list-number.result c.requires.within ∙ sym (ap (λ (p : Problem). Some p) c.index-list-number.is)) in
    none-added c.args.known.now.shape.now c.args.known.now.premise.now c.args.list.now c.args.number c.get-cube.result.now c.args.instances.now.items known (OnTrue_at c.if-has_failing.true c.has_failing.ensures)

pub scan_maps-requires-clause-fits : goal.scan_maps-requires-clause-fits
scan_maps-requires-clause-fits c =
    let known : slice_get c.args.list.now c.args.number ≡ Some c.get-cube.result.now =
    rw c.get-cube.ensures (slice_get-get_or c.args.list.now c.args.number c.index-list-number.result c.requires.within ∙ sym (ap (λ (p : Problem). Some p) c.index-list-number.is)) in
    from_known (Fits c.args.known.now.shape.now) c.args.list.now c.requires.fit c.args.number c.get-cube.result.now known

pub returns : goal.returns
returns c =
    let k = c.args.known.now in
    let cube : Problem = c.get-cube.result.now in
    let known : slice_get c.args.list.now c.args.number ≡ Some cube =
    rw c.get-cube.ensures (slice_get-get_or c.args.list.now c.args.number c.index-list-number.result c.requires.within ∙ sym (ap (λ (p : Problem). Some p) c.index-list-number.is)) in
    let are : AreRowMaps cube.rows k.premise.now.rows c.in_ok-maps.maps =
    subst (λ (rows : List RelId). AreRowMaps cube.rows rows c.in_ok-maps.maps) c.as_slice.ensures.items
    (subst (λ (rows : List RelId). AreRowMaps rows c.as_slice.result.now c.in_ok-maps.maps) c.rows.ensures c.in_ok-maps.ensures) in
    IfOk-weaker c.scan_maps.result
    (λ o. MatchOption o (AddsMaps k.shape.now k.premise.now cube c.args.number c.in_ok-maps.maps c.args.instances.now.items c.scan_maps.new.instances.items) (IsHeld k.shape.now k.premise.now cube c.args.number))
    (λ o. MatchOption o (AddsInstances k.shape.now k.premise.now c.args.list.now c.args.number c.args.instances.now.items c.scan_maps.new.instances.items) (IsHeldIn k.shape.now k.premise.now c.args.list.now))
    (λ o h. cube-scanned k.shape.now k.premise.now c.args.list.now c.args.number cube c.in_ok-maps.maps c.args.instances.now.items c.scan_maps.new.instances.items known are o h)
    c.scan_maps.ensures
