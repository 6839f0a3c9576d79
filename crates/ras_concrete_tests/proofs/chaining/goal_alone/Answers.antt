use Rattle.std.proofs.Common.{◌≡◌, refl, sym, subst, None, [], ◌∷◌, List}
use Rattle.ras_core.specs.declared.link.Link.{Link}
use Rattle.ras_concrete_tests.specs.Backwards.{IsSomeChain}
use Rattle.ras_concrete_tests.proofs.Backwards.{known-at, goal-alone}
use Rattle.ras_concrete_tests.proofs.chaining.goal_alone.Goals as goal

pub returns-in-Ok : goal.returns-in-Ok
returns-in-Ok c =
    let disjunct = c.in_ok-get.field-0.now in
    let found = c.in_ok-get.ensures.lookup in
    let known = known-at c.goals.result.now c.args.number disjunct found.3.0 found.3.1 in
    let list = c.goals.ensures in
    let same = c.in_ok-cube.ensures in
    subst (λ (links : List Link). IsSomeChain c.args.system.now links) (sym c.in-Ok.ensures.items)
    (goal-alone c.args.system.now (record { cube = c.in_ok-cube.cube; transition = None }) c.args.number (cc) refl)
