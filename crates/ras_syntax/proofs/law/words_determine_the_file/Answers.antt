use Rattle.ras_syntax.proofs.Unique.{words_determine_file}
use Rattle.ras_syntax.proofs.law.words_determine_the_file.Goals as goal

pub returns : goal.returns
returns c = words_determine_file
