use Rattle.ras_journals.proofs.JournalLaws.{journal_found, journal_misfit}
use Rattle.ras_journals.proofs.law.journals_are_read_exactly.Goals as goal

pub returns-clause-found : goal.returns-clause-found
returns-clause-found c = journal_found

pub returns-clause-misfit : goal.returns-clause-misfit
returns-clause-misfit c = journal_misfit
