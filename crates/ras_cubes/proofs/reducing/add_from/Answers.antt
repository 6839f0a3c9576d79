use Rattle.std.proofs.Common.{◌≡◌, ◌≤◌, length, refl, sym, ◌∙◌, ap, arith}
use Rattle.std.specs.Prelude.{Some, slice_get}
use Rattle.std.proofs.lemmas.Option.{slice_get_read}
use Rattle.ras_logic.specs.declared.literal.Literal.{Literal}
use Rattle.ras_cubes.proofs.Needed.{adds-start, adds-on, adds-end}
use Rattle.ras_cubes.proofs.reducing.add_from.Goals as goal

pub loop-k-init : goal.loop-k-init
loop-k-init c = adds-start c.args.facts.now c.args.literals.now c.args.from

pub loop-k-preserved : goal.loop-k-preserved
loop-k-preserved c =
    let at : slice_get c.args.literals.now c.loop-k.k ≡ Some c.index-literals-k.result =
    slice_get_read c.args.literals.now (length c.args.literals.now) c.loop-k.k c.index-literals-k.result refl c.loop-k-test.true c.index-literals-k.is in
    rw c.in_ok-push.ensures.ok
    (adds-on c.args.facts.now c.args.literals.now c.args.from c.loop-k.k c.loop-k.facts c.in_ok-literal.literal c.loop-k.auto.k (at ∙ ap (λ (l : Literal). Some l) (sym c.in_ok-literal.ensures)) c.loop-k.invariant)

pub returns : goal.returns
returns c = adds-end c.args.facts.now c.args.literals.now c.args.from c.loop-k.k c.loop-k.facts (let ge = c.loop-k-test.false in omega arith) c.loop-k.invariant
