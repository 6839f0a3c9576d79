use Rattle.std.proofs.Common.{◌≡◌, ℕ, ◌≤◌, length, refl, sym, ◌∙◌, ap, subst, arith}
use Rattle.std.specs.Prelude.{slice_get, Some}
use Rattle.std.proofs.lemmas.Option.{slice_get_read}
use Rattle.ras_cover.specs.CaseCubes.{AreCubesTo}
use Rattle.ras_cover.proofs.CoverLaws.{cubes-start, cubes-on, cubes-alike}
use Rattle.ras_cover.proofs.covering.case_cubes.Goals as goal

pub loop-case-init : goal.loop-case-init
loop-case-init c = rw c.new-cubes.ensures (cubes-start c.args.shape.now c.args.cases.now)

pub case_cube-requires : goal.case_cube-requires
case_cube-requires c =
    let there : slice_get c.args.cases.now c.loop-case.case-index ≡ Some c.case-item.result =
    slice_get_read c.args.cases.now (length c.args.cases.now) c.loop-case.case-index c.case-item.result refl c.loop-case-test.true c.case-item.is in
    c.requires c.case-item.result (record { number = c.loop-case.case-index; known = there })

pub admit-requires : goal.admit-requires
admit-requires c =
    let there : slice_get c.args.cases.now c.loop-case.case-index ≡ Some c.case-item.result =
    slice_get_read c.args.cases.now (length c.args.cases.now) c.loop-case.case-index c.case-item.result refl c.loop-case-test.true c.case-item.is in
    cubes-alike c.args.shape.now c.args.problem.now c.args.cases.now c.loop-case.case-index c.loop-case.cubes c.loop-case.invariant c.requires c.case-item.result
    (record { number = c.loop-case.case-index; known = there }) c.in_ok-cube.cube c.in_ok-cube.ensures

pub loop-case-preserved : goal.loop-case-preserved
loop-case-preserved c =
    let there : slice_get c.args.cases.now c.loop-case.case-index ≡ Some c.case-item.result =
    slice_get_read c.args.cases.now (length c.args.cases.now) c.loop-case.case-index c.case-item.result refl c.loop-case-test.true c.case-item.is in
    cubes-on c.args.shape.now c.args.cases.now c.loop-case.case-index c.loop-case.cubes c.in_ok-cubes.cubes c.case-item.result c.in_ok-cube.cube c.loop-case.invariant there c.in_ok-cube.ensures
    (c.in_ok-cubes.ensures c.args.shape.now)

pub returns : goal.returns
returns c =
    let ge = c.loop-case-test.false in let le = c.loop-case.auto.case-index-end in
    let same : c.loop-case.case-index ≡ length c.args.cases.now = omega arith in
    subst (λ (n : ℕ). AreCubesTo c.args.shape.now c.args.cases.now n c.loop-case.cubes) same c.loop-case.invariant
