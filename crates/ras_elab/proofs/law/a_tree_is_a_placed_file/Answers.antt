use Rattle.ras_elab.proofs.Seen.{is_file_of}
use Rattle.ras_elab.proofs.law.a_tree_is_a_placed_file.Goals as goal

pub returns : goal.returns
returns c = is_file_of
