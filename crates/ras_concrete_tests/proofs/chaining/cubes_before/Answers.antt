use Rattle.std.proofs.Common.{◌≡◌}
use Rattle.ras_concrete_tests.proofs.Backwards.{known-at, are-before}
use Rattle.ras_concrete_tests.proofs.chaining.cubes_before.Goals as goal

pub returns-in-Ok : goal.returns-in-Ok
returns-in-Ok c =
    let t = c.in-Some.field-0.now in
    let found = c.in-Some.ensures.lookup in
    let known = known-at c.transitions.result.now c.from.result t found.3.0 found.3.1 in
    let list = c.transitions.ensures in
    let number = c.from.ensures in
    are-before c.args.system.now c.args.transition c.args.cube.now _ c.in-Ok.cubes c.in-Ok.ensures.exact (c.in-Ok.ensures.cubes t (cc))
