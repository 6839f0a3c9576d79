use Rattle.ras_names.proofs.PassFile.{faulty-denotes_nothing}
use Rattle.ras_names.proofs.law.a_file_with_a_fault_denotes_nothing.Goals as goal

pub returns : goal.returns
returns c = faulty-denotes_nothing
