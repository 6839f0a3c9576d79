use Rattle.std.proofs.Common.{◌≡◌, ℕ, ◌<◌, length, refl, sym, ap, cond, arith}
use Rattle.ras_closure.specs.Elements.{number}
use Rattle.ras_closure.specs.Images.{IsImageAt}
use Rattle.ras_closure.proofs.FoundImages.{image-found}
use Rattle.ras_enlarge.specs.Numbers.{size_in}
use Rattle.ras_enlarge.proofs.Images.{none-more, image-missing, function-sorts}
use Rattle.ras_enlarge.proofs.tables.image_of_new.Goals as goal

pub returns-in-Some : goal.returns-in-Some
returns-in-Some c decl known =
    image-found c.args.table.now c.known.ensures (number c.args.numbers.now) c.args.function c.args.x (size_in c.args.sizes.now) decl c.loop-k.k c.in-Some.image c.in-Some.ensures.0 c.in-Some.ensures.1

pub loop-k-preserved : goal.loop-k-preserved
loop-k-preserved c = none-more (IsImageAt c.args.table.now (number c.args.numbers.now) c.args.function c.args.x) c.loop-k.k c.loop-k.invariant c.in_default.ensures

pub bounds-sizes-decl : goal.bounds-sizes-decl
bounds-sizes-decl c = rw c.requires.sizes (function-sorts c.args.table.now c.known.ensures c.args.function.n c.function-decl.result c.function-decl.ensures.known).1

pub returns-then-decl : goal.returns-then-decl
returns-then-decl c =
    image-missing c.args.table.now c.known.ensures (number c.args.numbers.now) (size_in c.args.sizes.now) c.args.function c.args.x (size_in c.args.sizes.now c.function-decl.result.target) c.function-decl.result
    c.function-decl.ensures.known (λ k lt. c.loop-k.invariant k (omega (arith, lt, c.loop-k-test.false, c.len-k-end.ensures))) (rw c.if-decl.true refl)

pub returns : goal.returns
returns c =
    image-missing c.args.table.now c.known.ensures (number c.args.numbers.now) (size_in c.args.sizes.now) c.args.function c.args.x 0 c.function-decl.result
    c.function-decl.ensures.known (λ k lt. c.loop-k.invariant k (omega (arith, lt, c.loop-k-test.false, c.len-k-end.ensures))) (rw c.if-decl.false refl)
