use Rattle.ras_numbering.proofs.NumberedFile.{faultless-value}
use Rattle.ras_numbering.proofs.law.a_file_without_a_fault_denotes_its_value.Goals as goal

pub returns : goal.returns
returns c = faultless-value
