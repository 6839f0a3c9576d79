use Rattle.ras_core.proofs.Journals.{journal-sound}
use Rattle.ras_core.proofs.law.only_the_hit_is_met_at_the_start.Goals as goal

pub returns-clause-entry : goal.returns-clause-entry
returns-clause-entry c = λ system budget base journal s r i e known. ((journal-sound system budget base journal s r).entries i e known).not_initial

pub returns-clause-spill : goal.returns-clause-spill
returns-clause-spill c = λ system budget base journal s r f h. ((journal-sound system budget base journal s r).spill f h).0.not_initial

pub returns-clause-base : goal.returns-clause-base
returns-clause-base c = λ system budget base journal s r. (journal-sound system budget base journal s r).base.initial

pub returns-clause-hit : goal.returns-clause-hit
returns-clause-hit c = λ system budget base journal s r f h. ((journal-sound system budget base journal s r).hit f h).1
