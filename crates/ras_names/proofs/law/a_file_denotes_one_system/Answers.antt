use Rattle.ras_names.proofs.OneSystem.{one_system}
use Rattle.ras_names.proofs.law.a_file_denotes_one_system.Goals as goal

pub returns : goal.returns
returns c = one_system
