use Rattle.std.proofs.Common.{◌≡◌, List, [], ◌∷◌, length, sym, ◌∙◌, ap, subst}
use Rattle.ras_logic.specs.declared.problem.Problem.{Problem}
use Rattle.ras_logic.specs.Shapes.{ShapeParts, IsShape}
use Rattle.ras_split.specs.Among.{IsAmong}
use Rattle.ras_cover.specs.Covers.{IsCover, AreTidy}
use Rattle.ras_split.specs.Standing.{CaseParts}
use Rattle.ras_cover.specs.CaseCubes.{IsOwnCube, AreCubesTo}
use Rattle.ras_cover.proofs.CoverLaws.{case-in, cover-is, cover-tidy, own-cover, own-tidy}
use Rattle.ras_split.proofs.Parting.{ok-if}
use Rattle.ras_cover.proofs.covering.cubes_of.Goals as goal

pub returns-in-Some-clause-cover : goal.returns-in-Some-clause-cover
returns-in-Some-clause-cover c =
    let ok : IsShape c.args.shape.now = subst IsShape c.requires.closure.shape_is c.known.ensures.table.shape in
    let own : IsOwnCube c.args.problem.now c.in-Some.own = rw c.in-Some.is at c.in_ok-own.ensures in
    ok-if c.own_cubes.result c.own_cubes.ensures
    (λ (cubes : List Problem) by.
    subst (IsCover c.args.shape.now c.args.problem.now) (sym by.1) (own-cover c.args.shape.now ok c.args.problem.now c.requires.fits c.in-Some.own own by.0 by.2))

pub returns-in-Some-clause-tidy : goal.returns-in-Some-clause-tidy
returns-in-Some-clause-tidy c =
    let ok : IsShape c.args.shape.now = subst IsShape c.requires.closure.shape_is c.known.ensures.table.shape in
    let own : IsOwnCube c.args.problem.now c.in-Some.own = rw c.in-Some.is at c.in_ok-own.ensures in
    ok-if c.own_cubes.result c.own_cubes.ensures
    (λ (cubes : List Problem) by.
    subst (AreTidy c.args.shape.now) (sym by.1)
    (own-tidy c.args.shape.now ok c.args.problem.now c.requires.fits c.in-Some.own own by.0 by.2 c.args.closure c.known.ensures.table c.known.ensures.closure c.requires.closure))

pub case_cubes-requires : goal.case_cubes-requires
case_cubes-requires c e among =
    case-in c.args.shape.now c.args.problem.now c.args.closure c.requires.closure c.in_ok-cases.cases c.in_ok-cases.ensures e
    (subst (λ (xs : List CaseParts). IsAmong xs e) c.as_slice.ensures.items among)

pub returns-clause-cover : goal.returns-clause-cover
returns-clause-cover c =
    let ok : IsShape c.args.shape.now = subst IsShape c.requires.closure.shape_is c.known.ensures.table.shape in
    ok-if c.case_cubes.result c.case_cubes.ensures
    (λ (cubes : List Problem) by.
    cover-is c.args.shape.now c.args.problem.now c.args.closure c.requires.closure c.in_ok-cases.cases c.in_ok-cases.ensures ok cubes
    (subst (λ (xs : List CaseParts). AreCubesTo c.args.shape.now xs (length xs) cubes) c.as_slice.ensures.items by))

pub returns-clause-tidy : goal.returns-clause-tidy
returns-clause-tidy c =
    let ok : IsShape c.args.shape.now = subst IsShape c.requires.closure.shape_is c.known.ensures.table.shape in
    ok-if c.case_cubes.result c.case_cubes.ensures
    (λ (cubes : List Problem) by.
    cover-tidy c.args.shape.now c.args.problem.now c.args.closure c.requires.closure c.in_ok-cases.cases c.in_ok-cases.ensures ok cubes
    (subst (λ (xs : List CaseParts). AreCubesTo c.args.shape.now xs (length xs) cubes) c.as_slice.ensures.items by))
