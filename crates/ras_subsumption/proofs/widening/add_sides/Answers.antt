use Rattle.std.proofs.Common.{subst}
use Rattle.ras_logic.specs.declared.term.Term.{Term}
use Rattle.ras_logic.specs.Literals.{left_of}
use Rattle.ras_subsumption.specs.Widened.{HasOverRows}
use Rattle.ras_subsumption.proofs.Adding.{adds-more, rows-kept}
use Rattle.ras_subsumption.proofs.widening.add_sides.Goals as goal

pub returns-clause-adds : goal.returns-clause-adds
returns-clause-adds c =
    adds-more c.args.shape.now c.args.rows.now c.args.literals.now c.add_term.new.literals c.add_term-2.new.literals c.in_ok-add_term.ensures.adds c.in_ok-add_term-2.ensures.adds

pub returns-clause-found : goal.returns-clause-found
returns-clause-found c =
    let shape = c.args.shape.now in
    let rows = c.args.rows.now in
    let new = c.add_term-2.new.literals in
    record {
      left = rows-kept shape rows c.add_term.new.literals new (left_of c.args.literal.now) c.in_ok-add_term-2.ensures.adds
          (subst (λ (t : Term). HasOverRows shape rows c.add_term.new.literals t) c.left.ensures c.in_ok-add_term.ensures.found);
      right = subst (λ (t : Term). HasOverRows shape rows new t) c.right.ensures c.in_ok-add_term-2.ensures.found;
    }
