use Rattle.std.proofs.Common.{◌≡◌, ℕ, ◌+◌, List, [], length, get_or, take, sym, ◌∙◌, subst, arith}
use Rattle.std.specs.Prelude.{All}
use Rattle.std.proofs.lemmas.List.{take_more, get_or_default}
use Rattle.std.proofs.lemmas.List.Elements.{All-weaker}
use Rattle.ras_logic.specs.declared.ids.RelId.{RelId}
use Rattle.ras_logic.specs.Refutations.{AreRowsOf}
use Rattle.ras_refute.proofs.Choices.{rows-long}
use Rattle.ras_row_maps.specs.RowMaps.{AreLongerBelow}
use Rattle.ras_row_maps.proofs.Longer.{AreLongerOf, longer-more, longer-all}
use Rattle.ras_row_maps.proofs.maps.with_next_row.Goals as goal

pub loop-map-preserved : goal.loop-map-preserved
loop-map-preserved c =
    let before : List RelId = take c.args.done c.args.from.now in
    let relation : RelId = get_or c.args.from.now c.args.done (record { n = 0 }) in
    let at : c.map-item.result ≡ get_or c.args.maps.now c.loop-map.map-index [] =
    c.map-item.is ∙ get_or_default c.args.maps.now c.loop-map.map-index c.map-item.result [] c.loop-map-test.true in
    let new : AreLongerBelow c.args.to.now relation (get_or c.args.maps.now c.loop-map.map-index []) (length c.args.to.now) c.in_ok-longer_maps.field-0 =
    subst (λ (map : List ℕ). AreLongerBelow c.args.to.now relation map (length c.args.to.now) c.in_ok-longer_maps.field-0) at c.in_ok-longer_maps.ensures in
    let long : All (λ (map : List ℕ). length map ≡ length before) c.args.maps.now =
    All-weaker (AreRowsOf c.args.to.now before) (λ (map : List ℕ). length map ≡ length before) (λ map of. rows-long c.args.to.now before map of) c.args.maps.now c.requires.maps.each in
    subst (AreLongerOf c.args.to.now relation c.args.maps.now (c.loop-map.map-index + 1)) (sym c.in_ok-append.ensures)
    (longer-more c.args.to.now relation c.args.maps.now (length before) c.loop-map.map-index c.loop-map.all c.in_ok-longer_maps.field-0 c.loop-map-test.true long c.requires.maps.ordered c.loop-map.invariant new)

pub returns : goal.returns
returns c =
    let before : List RelId = take c.args.done c.args.from.now in
    let relation : RelId = get_or c.args.from.now c.args.done (record { n = 0 }) in
    let ended : c.loop-map.map-index ≡ length c.args.maps.now = omega (arith, c.loop-map-test.false, c.loop-map.auto.map-index-end) in
    rw (take_more c.args.from.now c.args.done (record { n = 0 }) c.requires.within)
    (longer-all before c.args.to.now relation c.args.maps.now c.loop-map.all c.requires.maps
    (subst (λ (count : ℕ). AreLongerOf c.args.to.now relation c.args.maps.now count c.loop-map.all) ended c.loop-map.invariant))
