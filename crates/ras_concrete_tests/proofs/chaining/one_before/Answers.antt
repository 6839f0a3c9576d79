use Rattle.std.proofs.Common.{◌≡◌, refl, subst, Some}
use Rattle.ras_logic.specs.declared.problem.Problem.{Problem}
use Rattle.ras_concrete_tests.specs.Backwards.{IsBefore}
use Rattle.ras_concrete_tests.proofs.Backwards.{known-at, one-before}
use Rattle.ras_concrete_tests.proofs.chaining.one_before.Goals as goal

pub returns-in-Ok : goal.returns-in-Ok
returns-in-Ok c =
    let first = c.in_ok-first.field-0.now in
    let found = c.in_ok-first.ensures.item in
    let known = known-at c.deref.result.now 0 first found.3.0 found.3.1 in
    let list = c.deref.ensures.value in
    one-before c.args.system.now c.known.ensures.system c.args.links.items c.requires first (record { cube = c.in_ok-cube.cube; transition = Some c.args.lead.0 })
    c.args.lead.0 (cc) refl
    (subst (λ (cube : Problem). IsBefore c.args.system.now c.args.lead.0 cube c.in_ok-cube.cube) c.get.ensures c.in_ok-cube.ensures) c.insert.new.self.items
    c.in-Ok.ensures.items
