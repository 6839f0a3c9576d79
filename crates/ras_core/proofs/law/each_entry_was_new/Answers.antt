use Rattle.ras_core.proofs.Journals.{journal-sound}
use Rattle.ras_core.proofs.law.each_entry_was_new.Goals as goal

pub returns-clause-entry : goal.returns-clause-entry
returns-clause-entry c = λ system budget base journal s r i e known. ((journal-sound system budget base journal s r).entries i e known).has_new

pub returns-clause-spill : goal.returns-clause-spill
returns-clause-spill c = λ system budget base journal s r f h. ((journal-sound system budget base journal s r).spill f h).0.has_new
