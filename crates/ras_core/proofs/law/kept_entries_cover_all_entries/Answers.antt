use Rattle.ras_core.proofs.Journals.{journal-sound}
use Rattle.ras_core.proofs.Kept.{covers_entries}
use Rattle.ras_core.proofs.law.kept_entries_cover_all_entries.Goals as goal

pub returns : goal.returns
returns c = λ system budget base journal s r. covers_entries system budget s (journal-sound system budget base journal s r)
