use Rattle.ras_canonical.proofs.Again.{denoted_again}
use Rattle.ras_canonical.proofs.law.a_canonical_text_denotes_the_same.Goals as goal

pub returns : goal.returns
returns c = denoted_again
