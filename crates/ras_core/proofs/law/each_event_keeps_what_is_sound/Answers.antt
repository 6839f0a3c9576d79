use Rattle.ras_core.proofs.Keeping.{event-sound}
use Rattle.ras_core.proofs.Journals.{first-sound, journal-sound}
use Rattle.ras_core.proofs.law.each_event_keeps_what_is_sound.Goals as goal

pub returns-clause-start : goal.returns-clause-start
returns-clause-start c = first-sound

pub returns-clause-event : goal.returns-clause-event
returns-clause-event c = λ system budget s e sound. event-sound system budget s sound e

pub returns-clause-journal : goal.returns-clause-journal
returns-clause-journal c = journal-sound
