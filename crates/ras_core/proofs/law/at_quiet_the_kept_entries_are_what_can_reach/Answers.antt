use Rattle.std.proofs.Common.{List, [], ◌++◌, subst}
use Rattle.ras_logic.specs.declared.problem.Problem.{Problem}
use Rattle.ras_system.specs.Invariants.{IsInvariant}
use Rattle.ras_core.specs.Covered.{kept_cubes}
use Rattle.ras_core.proofs.Journals.{journal-sound, replays-base}
use Rattle.ras_core.proofs.Kept.{covered-listed, listed-covered}
use Rattle.ras_core.proofs.Reaching.{reaching-covered, covered-reaches, quiet-invariant}
use Rattle.ras_core.proofs.law.at_quiet_the_kept_entries_are_what_can_reach.Goals as goal

pub returns-clause-covered : goal.returns-clause-covered
returns-clause-covered c = λ system budget base journal s good r quiet. reaching-covered system good budget s (journal-sound system budget base journal s r) quiet

pub returns-clause-reach : goal.returns-clause-reach
returns-clause-reach c = λ system budget journal s good r quiet d state is. let sound = journal-sound system budget [] journal s r in
    (covered-reaches system good budget s sound quiet (replays-base system budget [] journal s r) d state is, reaching-covered system good budget s sound quiet d state is)

pub returns-clause-invariant : goal.returns-clause-invariant
returns-clause-invariant c = λ system budget base journal s good r quiet.
    subst (λ (cubes : List Problem). IsInvariant system (kept_cubes s ++ cubes)) (replays-base system budget base journal s r)
    (quiet-invariant system good budget s (journal-sound system budget base journal s r) quiet)

pub returns-clause-listed : goal.returns-clause-listed
returns-clause-listed c = λ s d state. (covered-listed s d state, listed-covered s d state)
