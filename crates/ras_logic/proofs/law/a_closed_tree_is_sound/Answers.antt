use Rattle.ras_logic.proofs.Closing.{closed-sound}
use Rattle.ras_logic.proofs.law.a_closed_tree_is_sound.Goals as goal

pub returns : goal.returns
returns c = closed-sound
