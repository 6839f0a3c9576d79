use Rattle.std.proofs.Common.{◌≡◌, refl, sym, arith}
use Rattle.ras_closure.specs.Elements.{number}
use Rattle.ras_enlarge.proofs.Images.{image-elsewhere}
use Rattle.ras_enlarge.proofs.tables.image_at.Goals as goal

pub returns-in_default : goal.returns-in_default
returns-in_default c at = c.in_default.ensures at.of at.link

pub returns-then-numbers-of : goal.returns-then-numbers-of
returns-then-numbers-of c =
    image-elsewhere c.args.table.now (number c.args.numbers.now) c.args.function c.args.x c.args.k c.in-Some.of c.in-Some.ensures c.if-numbers-of.true

pub returns : goal.returns
returns c = (record { of = c.in-Some.of; link = c.in-Some.ensures; argument = c.if-numbers-of.false }, refl)
