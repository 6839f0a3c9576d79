use Rattle.ras_file.proofs.OneFault.{faulty-denotes_nothing}
use Rattle.ras_file.proofs.law.a_text_with_a_fault_denotes_nothing.Goals as goal

pub returns : goal.returns
returns c = faulty-denotes_nothing c.tokens_are_one.ensures c.tokens_have_no_fault.ensures c.tokens_with_a_fault_denote_nothing.ensures
