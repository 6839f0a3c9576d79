use Rattle.std.proofs.Common.{◌≡◌, refl, sym, ◌∙◌}
use Rattle.ras_cubes.proofs.Needed.{reduced-free}
use Rattle.ras_cubes.proofs.reducing.reduced_cube.Goals as goal

pub cube_with-requires : goal.cube_with-requires
cube_with-requires c = reduced-free c.args.shape.now c.args.full.now c.requires.cube c.in_ok-literals.literals c.in_ok-literals.ensures

pub returns : goal.returns
returns c = rw c.cube_with.ensures (record { rows = c.in_ok-rows.ensures; params = refl; reduced = c.in_ok-literals.ensures })
