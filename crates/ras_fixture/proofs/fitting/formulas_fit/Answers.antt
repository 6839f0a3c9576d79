use Rattle.std.proofs.Common.{◌∙◌, subst}
use Rattle.std.proofs.lemmas.List.Elements.{All-more}
use Rattle.std.proofs.lemmas.List.{take_all}
use Rattle.ras_logic.specs.Formulas.{Fits}
use Rattle.ras_fixture.proofs.fitting.formulas_fit.Goals as goal

pub loop-formula-preserved : goal.loop-formula-preserved
loop-formula-preserved c =
    All-more (Fits c.args.shape.now) c.args.formulas.now c.loop-formula.formula-index c.formula-item.result c.loop-formula-test.true c.loop-formula.invariant
    (subst (Fits c.args.shape.now) (c.get.ensures ∙ c.formula-item.is) (c.cube_fits.ensures.0 c.if-not-cube_fits.false))

pub returns : goal.returns
returns c = λ _. let ended = c.loop-formula-test.false in let all = c.loop-formula.invariant in rw (take_all c.loop-formula.formula-index c.args.formulas.now ended) at all
