use Rattle.ras_answers.proofs.Placing.{file_is_placed}
use Rattle.ras_answers.proofs.law.a_file_has_places.Goals as goal

pub returns : goal.returns
returns c = file_is_placed
