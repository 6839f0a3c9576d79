use Rattle.ras_core.proofs.Journals.{journal-sound}
use Rattle.ras_core.proofs.law.done_entries_are_worked_out.Goals as goal

pub returns : goal.returns
returns c = λ system budget base journal s r. (journal-sound system budget base journal s r).worked_out
