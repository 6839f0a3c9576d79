use Rattle.std.proofs.Common.{arith, inl, inr, ◌-◌}
use Rattle.ras_closure.specs.Elements.{number}
use Rattle.ras_closure.proofs.Gaps.{images-skip, images-outside, images-put}
use Rattle.ras_closure.proofs.images.note_image.Goals as goal

pub returns-in_default : goal.returns-in_default
returns-in_default c = images-skip c.args.table.now c.args.numbers.now c.args.function c.args.k c.args.images.now c.requires.images c.in_default.ensures

pub returns-then-argument-eq0 : goal.returns-then-argument-eq0
returns-then-argument-eq0 c =
    images-outside c.args.table.now c.args.numbers.now c.args.function c.args.k c.args.images.now c.requires.images c.in-Some.of c.in-Some.ensures (inl c.if-argument-eq0.true)

pub returns-then-argument-images : goal.returns-then-argument-images
returns-then-argument-images c =
    images-outside c.args.table.now c.args.numbers.now c.args.function c.args.k c.args.images.now c.requires.images c.in-Some.of c.in-Some.ensures (inr c.if-argument-images.true)

pub returns : goal.returns
returns c =
    let x = number c.args.numbers.now c.in-Some.of in
    images-put c.args.table.now c.args.numbers.now c.args.function c.args.k c.args.images.now c.requires.images c.in-Some.of (x - 1) c.in-Some.ensures
    (omega (arith, c.if-argument-eq0.false)) (omega (arith, c.if-argument-eq0.false, c.if-argument-images.false))
