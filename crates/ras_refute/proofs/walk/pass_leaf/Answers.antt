use Rattle.std.proofs.Common.{◌≡◌, refl, true}
use Rattle.ras_refute.proofs.Wider.{clash-reversed, clash-from_reversed}
use Rattle.ras_refute.proofs.walk.pass_leaf.Goals as goal

pub returns-clause-clash : goal.returns-clause-clash
returns-clause-clash c =
    let told = rw c.deref.ensures.value at c.in_ok-clashes.ensures in
    clash-reversed c.args.schema.now c.args.facts.now.items (told.0 c.if-not-branch.false)

pub returns-then-not-branch-clause-fault : goal.returns-then-not-branch-clause-fault
returns-then-not-branch-clause-fault c =
    let told = rw c.deref.ensures.value at c.in_ok-clashes.ensures in
    (refl, λ h. let yes_it : c.in_ok-clashes.field-0 ≡ true = told.1 (clash-from_reversed c.args.schema.now c.args.facts.now.items h) in cc (yes_it, c.if-not-branch.true))
