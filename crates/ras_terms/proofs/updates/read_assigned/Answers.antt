use Rattle.std.proofs.Common.{sym}
use Rattle.ras_terms.specs.Assigning.{assigned_checks}
use Rattle.ras_scope.specs.Placing.{placed_term}
use Rattle.ras_scope.proofs.Following.{handed}
use Rattle.ras_terms.proofs.ReadAssigned.{term_faults, sign_faults, sign_passes}
use Rattle.ras_terms.proofs.updates.read_assigned.Goals as goal

pub returns-in_err-meaning-clause-checks : goal.returns-in_err-meaning-clause-checks
returns-in_err-meaning-clause-checks c = λ seen wanted sees sorted.
    let t = placed_term c.args.term.now in
    let e = c.in_err-meaning.field-0.0 in
    handed (assigned_checks seen c.args.sign wanted t) c.from_residual.result e c.from_residual.ensures.1 (term_faults seen c.args.sign wanted t e (c.in_err-meaning.ensures.checks seen sees))

pub returns-then-ne-clause-checks : goal.returns-then-ne-clause-checks
returns-then-ne-clause-checks c = λ seen wanted sees sorted.
    rw c.fault.ensures (sign_faults seen c.args.sign wanted (placed_term c.args.term.now) c.args.sort c.in_ok-meaning.meaning sorted (c.in_ok-meaning.ensures.checks seen sees)
    (c.in_ok-meaning.ensures.value seen sees) c.in-Some.own c.in-Some.ensures (sym c.if-ne.ensures))

pub returns-else-ne-clause-checks : goal.returns-else-ne-clause-checks
returns-else-ne-clause-checks c = λ seen wanted sees sorted.
    sign_passes seen c.args.sign wanted (placed_term c.args.term.now) c.args.sort c.in_ok-meaning.meaning sorted (c.in_ok-meaning.ensures.checks seen sees)
    (c.in_ok-meaning.ensures.value seen sees) c.in-Some.own c.in-Some.ensures (sym c.if-ne.ensures)
