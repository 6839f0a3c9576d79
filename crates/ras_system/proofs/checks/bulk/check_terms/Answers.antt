use Rattle.std.proofs.Common.{sym, ◌∙◌}
use Rattle.ras_system.proofs.KnownTerms.{known-columns}
use Rattle.ras_system.proofs.checks.bulk.check_terms.Goals as goal

pub returns-clause-columns : goal.returns-clause-columns
returns-clause-columns c =
    known-columns c.args.shape.now _ _ _ c.args.case.now c.known.ensures.limits.columns
    (sym c.is_known_case.ensures ∙ c.if-not-is_known_case.false)
