use Rattle.std.proofs.Common.{List, subst}
use Rattle.ras_logic.specs.declared.problem.Problem.{Problem}
use Rattle.ras_logic.specs.Shapes.{ShapeParts}
use Rattle.ras_split.proofs.Parting.{ok-if}
use Rattle.ras_leads.specs.Covered.{AreCubesOfSome}
use Rattle.ras_leads.specs.Gathered.{AreGathered}
use Rattle.ras_leads.proofs.Gathers.{gathered-cubes, gathered-tidy}
use Rattle.ras_leads.proofs.MetLarger.{leads-exact}
use Rattle.ras_leads.proofs.covered.pre_covered.Goals as goal

pub covers_of-requires : goal.covers_of-requires
covers_of-requires c = rw c.shape.ensures (c.in_ok-problems.ensures.fit c.requires.fits)

pub returns-clause-exact : goal.returns-clause-exact
returns-clause-exact c =
    let problems : List Problem = c.in_ok-problems.problems in
    let is = c.in_ok-problems.ensures in
    ok-if c.covers_of.result c.covers_of.ensures.cubes
    (λ (cubes : List Problem) are.
    leads-exact c.args.system.now c.args.transition c.args.cube.now problems (is.fit c.requires.fits) (is.exact c.requires.fits) cubes
    (subst (λ (s : ShapeParts). AreGathered s problems cubes) c.shape.ensures are))

pub returns-clause-cubes : goal.returns-clause-cubes
returns-clause-cubes c =
    let problems : List Problem = c.in_ok-problems.problems in
    ok-if c.covers_of.result c.covers_of.ensures.cubes
    (λ (cubes : List Problem) are t at.
    subst (λ (ps : List Problem). AreCubesOfSome c.args.system.now.shape ps cubes) (c.in_ok-problems.ensures.list t at)
    (gathered-cubes c.args.system.now.shape problems cubes (subst (λ (s : ShapeParts). AreGathered s problems cubes) c.shape.ensures are)))

pub returns-clause-tidy : goal.returns-clause-tidy
returns-clause-tidy c =
    let problems : List Problem = c.in_ok-problems.problems in
    ok-if c.covers_of.result c.covers_of.ensures.cubes
    (λ (cubes : List Problem) are. gathered-tidy c.args.system.now.shape problems cubes (subst (λ (s : ShapeParts). AreGathered s problems cubes) c.shape.ensures are))
