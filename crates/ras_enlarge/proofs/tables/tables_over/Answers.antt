use Rattle.std.proofs.Common.{◌≡◌, ℕ, ◌<◌, length, refl, sym, ap, cond, arith}
use Rattle.ras_closure.specs.Elements.{number}
use Rattle.ras_enlarge.specs.Numbers.{size_in}
use Rattle.ras_enlarge.proofs.Images.{tables-more}
use Rattle.ras_enlarge.proofs.tables.tables_over.Goals as goal

pub loop-f-preserved : goal.loop-f-preserved
loop-f-preserved c =
    rw c.in_ok-push.ensures.ok
    (tables-more c.args.table.now c.args.db.now (number c.args.numbers.now) (size_in c.args.sizes.now) c.loop-f.f c.loop-f.tables c.in_ok-images.images c.loop-f.invariant c.in_ok-images.ensures)
