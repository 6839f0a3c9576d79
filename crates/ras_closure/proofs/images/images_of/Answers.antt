use Rattle.std.proofs.Common.{◌≡◌, ℕ, length, arith, subst}
use Rattle.ras_closure.specs.Images.{AreImages}
use Rattle.ras_closure.proofs.images.images_of.Goals as goal

pub returns-clause-images : goal.returns-clause-images
returns-clause-images c =
    let all : c.loop-k.k ≡ length c.args.table.now.terms = omega (arith, c.len-k-end.ensures) in
    subst (λ (n : ℕ). AreImages c.args.table.now c.args.numbers.now c.args.function n c.loop-k.images.items) all c.loop-k.invariant.images
