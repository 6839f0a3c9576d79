use Rattle.std.proofs.Common.{◌≡◌, ℕ, length, arith, subst}
use Rattle.ras_closure.specs.Elements.{AreNumbered}
use Rattle.ras_closure.proofs.elements.number_terms.Goals as goal

pub returns : goal.returns
returns c =
    let all : c.loop-i.i ≡ length c.args.table.now.terms = omega (arith, c.len-i-end.ensures) in
    subst (λ (n : ℕ). AreNumbered c.args.table.now c.args.classes.now c.loop-i.numbers.items c.loop-i.counts.items n) all c.loop-i.invariant
