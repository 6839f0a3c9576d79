use Rattle.std.proofs.Common.{get_or, arith}
use Rattle.ras_logic.specs.declared.ids.RelId.{RelId}
use Rattle.ras_row_maps.proofs.Rooms.{rows-room}
use Rattle.ras_row_maps.proofs.maps.have_room.Goals as goal

pub returns-then-count : goal.returns-then-count
returns-then-count c map of =
    let relation : RelId = get_or c.args.from.now c.loop-relation.relation-index (record { n = 0 }) in
    let room = rows-room c.args.from.now c.args.to.now relation map of in
    omega (arith, room, c.if-count.true, c.count.ensures, c.count-in-loop-relation.ensures)
