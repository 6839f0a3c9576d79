use Rattle.std.proofs.Common.{subst}
use Rattle.ras_store.specs.Outcomes.{IsSkipping}
use Rattle.ras_submit.proofs.Certain.{not-refused, noted-submitted}
use Rattle.ras_submit.proofs.submitting.note.Goals as goal

pub unreachable-requires : goal.unreachable-requires
unreachable-requires c =
    not-refused c.args.store.now c.skip.new.self c.args.site.now c.args.cube c.args.reasons.now c.in-Gone.number c.requires.good c.requires.kept
    (subst (IsSkipping c.args.store.now c.skip.new.self c.args.site.now c.args.cube c.args.reasons.now) c.in-Gone.is c.in_ok-skip.ensures.ok)

pub returns-clause-ok : goal.returns-clause-ok
returns-clause-ok c =
    noted-submitted c.args.store.now c.known.ensures c.skip.new.self c.args.site.now c.args.cube c.args.reasons.now c.requires.comes
    (subst (IsSkipping c.args.store.now c.skip.new.self c.args.site.now c.args.cube c.args.reasons.now) c.in-Noted.is c.in_ok-skip.ensures.ok)
