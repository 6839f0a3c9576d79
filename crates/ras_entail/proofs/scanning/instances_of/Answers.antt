use Rattle.std.proofs.Common.{◌≡◌, [], ◌∷◌, sym, subst}
use Rattle.std.proofs.lemmas.Result.{IfOk-weaker}
use Rattle.ras_entail.specs.Scans.{AreEnough, IsHeldIn, AddsInstances}
use Rattle.ras_entail.proofs.Enough.{enough-all, enough-more}
use Rattle.ras_entail.proofs.FailingLiterals.{held-enough}
use Rattle.ras_entail.proofs.scanning.instances_of.Goals as goal

pub returns-in-Some : goal.returns-in-Some
returns-in-Some c =
    let k = c.args.known.now in
    let held : IsHeldIn k.shape.now k.premise.now c.args.list.now c.in-Some.held = rw c.in-Some.is at c.in_ok-held.ensures in
    IfOk-weaker c.alone.result (λ found. found.items ≡ c.in-Some.held ∷ []) (λ found. AreEnough k.shape.now k.premise.now c.args.list.now found.items)
    (λ found is. subst (AreEnough k.shape.now k.premise.now c.args.list.now) (sym is) (held-enough k.shape.now k.premise.now c.args.list.now c.in-Some.held held))
    c.alone.ensures

pub loop-number-preserved : goal.loop-number-preserved
loop-number-preserved c =
    let k = c.args.known.now in
    let adds : AddsInstances k.shape.now k.premise.now c.args.list.now c.loop-number.number c.loop-number.instances.items c.scan_cube.new.instances.items =
    rw c.in-None.is at c.in_ok-held.ensures in
    enough-more k.shape.now k.premise.now c.args.list.now c.loop-number.number c.loop-number.instances.items c.scan_cube.new.instances.items c.loop-number.invariant adds

pub returns : goal.returns
returns c =
    enough-all c.args.known.now.shape.now c.args.known.now.premise.now c.args.list.now c.loop-number.number c.loop-number.instances.items c.loop-number-test.false c.loop-number.invariant
