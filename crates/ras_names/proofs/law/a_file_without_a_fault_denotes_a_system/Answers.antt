use Rattle.ras_names.proofs.MadeFile.{faultless-denotes}
use Rattle.ras_names.proofs.law.a_file_without_a_fault_denotes_a_system.Goals as goal

pub returns : goal.returns
returns c = faultless-denotes
