use Rattle.std.proofs.Common.{subst}
use Rattle.ras_store.specs.Outcomes.{IsAdmission}
use Rattle.ras_submit.proofs.Certain.{certain, in-entered, full-spilled}
use Rattle.ras_submit.proofs.submitting.enter.Goals as goal

pub unreachable-requires : goal.unreachable-requires
unreachable-requires c =
    certain c.args.store.now c.admit.new.self c.args.site.now c.args.cube c.args.witness c.requires.no_hit c.requires.good c.requires.new c.in_ok-number.field-0 c.in_ok-number.ensures.ok
    c.in_default.not-In c.in_default.not-Full

pub returns-in-In-clause-some : goal.returns-in-In-clause-some
returns-in-In-clause-some c =
    in-entered c.args.store.now c.known.ensures c.admit.new.self c.args.site.now c.args.cube c.args.witness c.in-In.number c.requires.comes c.requires.good
    (subst (IsAdmission c.args.store.now c.admit.new.self c.args.site.now c.args.cube c.args.witness) c.in-In.is c.in_ok-number.ensures.ok)

pub returns-in-Full-clause-none : goal.returns-in-Full-clause-none
returns-in-Full-clause-none c =
    full-spilled c.args.store.now c.admit.new.self c.args.site.now c.args.cube c.args.witness c.in-Full.budget
    (subst (IsAdmission c.args.store.now c.admit.new.self c.args.site.now c.args.cube c.args.witness) c.in-Full.is c.in_ok-number.ensures.ok)
