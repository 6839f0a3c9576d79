use Rattle.std.proofs.Common.{◌≡◌, ◌≤◌, length, sym, ◌∙◌, arith}
use Rattle.ras_cubes.proofs.Needed.{reduced-start, reduced-end}
use Rattle.ras_cubes.proofs.reducing.reduce.Goals as goal

pub loop-place-init : goal.loop-place-init
loop-place-init c = rw c.new-kept.ensures (reduced-start c.args.shape.now c.args.problem.now)

pub returns : goal.returns
returns c = reduced-end c.args.shape.now c.args.problem.now c.loop-place.place c.loop-place.kept (let ge = c.loop-place-test.false in let n = c.len-place-end.ensures.count in omega arith) c.loop-place.invariant
