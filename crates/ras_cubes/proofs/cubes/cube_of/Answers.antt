use Rattle.std.proofs.Common.{◌≡◌, List, sym, ◌∙◌, ap, subst}
use Rattle.std.specs.Prelude.{Option}
use Rattle.ras_logic.specs.declared.term.Term.{Term}
use Rattle.ras_logic.specs.declared.problem.Problem.{Problem}
use Rattle.ras_closure.specs.Closures.{ClosureParts}
use Rattle.ras_cubes.specs.Dues.{IsCubeOf}
use Rattle.ras_split.proofs.Parting.{ok-if}
use Rattle.ras_cubes.proofs.cubes.cube_of.Goals as goal

pub returns : goal.returns
returns c =
    ok-if c.cube_by.result c.cube_by.ensures
    (λ (p : Problem) of. record {
      table = c.known.ensures.table;
      closure = c.known.ensures.closure;
      standing = c.known.ensures.standing;
      cube = subst (λ (x : ClosureParts). IsCubeOf x c.args.case.now.terms p) c.closure.ensures
          (subst (λ (xs : List (Option Term)). IsCubeOf c.closure.result.now xs p) c.standing.ensures of);
    })
