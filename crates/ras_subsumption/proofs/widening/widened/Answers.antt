use Rattle.std.proofs.Common.{List, ◌∙◌, ap, subst}
use Rattle.std.specs.Prelude.{All}
use Rattle.ras_logic.specs.declared.ids.RelId.{RelId}
use Rattle.ras_logic.specs.declared.literal.Literal.{Literal}
use Rattle.ras_logic.specs.declared.problem.Problem.{Problem}
use Rattle.ras_subsumption.specs.Widened.{IsTrivial, HasSidesOver}
use Rattle.ras_subsumption.proofs.widening.widened.Goals as goal

pub returns : goal.returns
returns c =
    let shape = c.args.shape.now in
    let more = c.in_ok-more.more in
    record {
      rows_are = ap (λ (p : Problem). p.rows) c.in_ok-problem.ensures;
      none = ap (λ (p : Problem). p.params) c.in_ok-problem.ensures ∙ c.known.ensures.cube.none;
      more = more;
      literals_are = rw (← c.in_ok-problem.ensures) c.in_ok-append.ensures;
      trivial = subst (λ (rows : List RelId). All (IsTrivial shape rows) more) c.rows.ensures c.in_ok-more.ensures.trivial;
      sides = subst (λ (rows : List RelId). All (HasSidesOver shape rows more) c.args.other.now.literals) c.rows.ensures
          (subst (λ (ls : List Literal). All (HasSidesOver shape c.rows.result.now more) ls) c.literals.ensures c.in_ok-more.ensures.sides);
    }
