use Rattle.std.proofs.Common.{subst, refl}
use Rattle.std.proofs.lemmas.Option.{slice_get_within}
use Rattle.ras_logic.specs.Clashes.{IsTerm}
use Rattle.ras_closure.specs.Closures.{ClosureParts, IsNo}
use Rattle.ras_closure.proofs.closure.Closure.term.Goals as goal

pub returns-clause-known : goal.returns-clause-known
returns-clause-known c = (
  λ h. subst (λ (o : ClosureParts). IsTerm o.table.shape.schema o.table.problem.literals c.args.term.now) c.self.view_is
      (c.known.ensures.terms.known c.in_ok-i.i c.args.term.now c.in_ok-i.ensures),
  λ h. refl,
)

pub returns-clause-within : goal.returns-clause-within
returns-clause-within c = subst (λ (o : ClosureParts). IsNo o (record { n = c.in_ok-i.i })) c.self.view_is (slice_get_within c.self.inside.table.terms c.in_ok-i.i c.args.term.now c.in_ok-i.ensures)
