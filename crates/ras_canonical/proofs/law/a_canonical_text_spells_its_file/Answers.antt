use Rattle.ras_canonical.proofs.Again.{spelled_again}
use Rattle.ras_canonical.proofs.law.a_canonical_text_spells_its_file.Goals as goal

pub returns : goal.returns
returns c = spelled_again
