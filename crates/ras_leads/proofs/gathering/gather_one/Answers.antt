use Rattle.std.proofs.Common.{List, sym, ◌∙◌, subst}
use Rattle.ras_logic.specs.declared.problem.Problem.{Problem}
use Rattle.ras_closure.proofs.Cases.{true_false}
use Rattle.ras_split.specs.Among.{IsAmong}
use Rattle.ras_leads.proofs.Gathers.{gathers-new}
use Rattle.ras_leads.proofs.gathering.gather_one.Goals as goal

pub returns : goal.returns
returns c =
    rw c.in_ok-push.ensures.ok
    (gathers-new c.args.cubes.now c.args.cube
    (λ there.
    true_false (sym (c.is_there.ensures.1 (subst (λ (xs : List Problem). IsAmong xs c.args.cube) (sym c.as_slice.ensures.items) there)) ∙ c.if-is_there.false)))
