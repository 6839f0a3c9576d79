use Rattle.ras_core.proofs.Journals.{journal-sound}
use Rattle.ras_core.proofs.law.kept_entries_cover_all_submissions.Goals as goal

pub returns-clause-entry : goal.returns-clause-entry
returns-clause-entry c = λ system budget base journal s r. (journal-sound system budget base journal s r).submissions

pub returns-clause-goal : goal.returns-clause-goal
returns-clause-goal c = λ system budget base journal s r. (journal-sound system budget base journal s r).goals
