use Rattle.std.proofs.Common.{◌≡◌, subst, sym, rules}
use Rattle.ras_logic.specs.declared.problem.Problem.{Problem}
use Rattle.ras_logic.specs.Formulas.{Fits}
use Rattle.ras_system.specs.Obligations.{at_start}
use Rattle.ras_obligations.proofs.StartFits.{start-fits}
use Rattle.ras_obligations.proofs.premises.initial_premise.Goals as goal

pub returns-clause-fits : goal.returns-clause-fits
returns-clause-fits c =
    let premise : Problem = record {
      rows = c.in_ok-premise.premise.rows;
      params = c.in_ok-premise.premise.params;
      literals = c.add_undef_cells.new.literals;
    } in
    let is : premise ≡ at_start c.args.system.now c.args.cube.now = search rules in
    subst (Fits c.args.system.now.shape) (sym is) (start-fits c.args.system.now c.known.ensures.system c.args.cube.now c.requires)
