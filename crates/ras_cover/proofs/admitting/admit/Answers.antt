use Rattle.std.proofs.Common.{◌≡◌, List, subst}
use Rattle.ras_logic.specs.declared.problem.Problem.{Problem}
use Rattle.ras_split.specs.Among.{IsAmong}
use Rattle.ras_cover.proofs.Admitted.{admits-covered, admits-added}
use Rattle.ras_cover.proofs.admitting.admit.Goals as goal

pub returns-then-is_covered : goal.returns-then-is_covered
returns-then-is_covered c shape =
    let q = c.is_covered.ensures c.if-is_covered.true in
    admits-covered shape c.args.cubes c.args.cube c.requires q.0 (subst (λ (xs : List Problem). IsAmong xs q.0) c.as_slice.ensures.items q.1) q.2

pub returns : goal.returns
returns c shape = rw c.in_ok-push.ensures.ok (admits-added shape c.args.cubes c.args.cube c.requires c.in_ok-kept.kept c.in_ok-kept.ensures)
