use Rattle.ras_core.proofs.Journals.{journal-sound}
use Rattle.ras_core.proofs.law.entries_stay_within_the_budget.Goals as goal

pub returns-clause-few : goal.returns-clause-few
returns-clause-few c = λ system budget base journal s r. (journal-sound system budget base journal s r).few

pub returns-clause-spill : goal.returns-clause-spill
returns-clause-spill c = λ system budget base journal s r f h. ((journal-sound system budget base journal s r).spill f h).1
