use Rattle.std.proofs.Common.{◌≡◌, sym, ◌∙◌, ap, subst}
use Rattle.ras_logic.specs.declared.problem.Problem.{Problem}
use Rattle.ras_logic.specs.Shapes.{ShapeParts}
use Rattle.ras_logic.specs.Formulas.{Fits}
use Rattle.ras_cover.proofs.Implied.{cube-is, cube-fits}
use Rattle.ras_split.proofs.Parting.{ok-if}
use Rattle.ras_cover.proofs.covering.case_cube.Goals as goal

pub reduced_cube-requires-clause-fits : goal.reduced_cube-requires-clause-fits
reduced_cube-requires-clause-fits c =
    let is = c.in_ok-full.ensures in
    subst (λ (s : ShapeParts). Fits s c.in_ok-full.full) c.requires.shape_is
    (cube-fits c.args.case.now.closure is.table is.closure c.args.case.now.terms is.standing c.in_ok-full.full is.cube)

pub reduced_cube-requires-clause-cube : goal.reduced_cube-requires-clause-cube
reduced_cube-requires-clause-cube c =
    let is = c.in_ok-full.ensures in cube-is c.args.case.now.closure is.table is.closure c.args.case.now.terms is.standing c.in_ok-full.full is.cube

pub returns : goal.returns
returns c =
    ok-if c.reduced_cube.result c.reduced_cube.ensures (λ (p : Problem) reduced. record { full = c.in_ok-full.full; of = c.in_ok-full.ensures; reduced = reduced })
