use Rattle.std.proofs.Common.{◌≡◌, true, [], ◌∷◌, ◌++◌, sym, ◌∙◌}
use Rattle.std.specs.Option.{is_some}
use Rattle.ras_logic.specs.Terms.{sort_of}
use Rattle.ras_subsumption.specs.Widened.{itself}
use Rattle.ras_subsumption.proofs.Adding.{adds-term, has-pushed}
use Rattle.ras_subsumption.proofs.widening.add_over.Goals as goal

pub returns-in_ok-push-clause-adds : goal.returns-in_ok-push-clause-adds
returns-in_ok-push-clause-adds c =
    let some : is_some (sort_of c.args.shape.now c.args.rows.now [] c.in_ok-term.term) ≡ true = rw (← c.sort_of.ensures) (sym c.is_some.ensures ∙ c.if-is_some.true) in
    let new : c.push.new.self ≡ c.args.literals.now ++ itself c.in_ok-term.term ∷ [] = rw (← c.in_ok-itself.ensures) c.in_ok-push.ensures.ok in
    rw new (adds-term c.args.shape.now c.args.rows.now c.args.literals.now c.in_ok-term.term some)

pub returns-in_ok-push-clause-found : goal.returns-in_ok-push-clause-found
returns-in_ok-push-clause-found c =
    let new : c.push.new.self ≡ c.args.literals.now ++ itself c.in_ok-term.term ∷ [] = rw (← c.in_ok-itself.ensures) c.in_ok-push.ensures.ok in
    rw (new, c.in_ok-term.ensures) (has-pushed c.args.shape.now c.args.rows.now c.args.literals.now c.args.term.now c.args.row)
