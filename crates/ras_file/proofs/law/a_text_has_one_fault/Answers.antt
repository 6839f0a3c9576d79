use Rattle.ras_file.proofs.OneFault.{one_file_fault}
use Rattle.ras_file.proofs.law.a_text_has_one_fault.Goals as goal

pub returns : goal.returns
returns c = one_file_fault record {
  tokens_one = c.tokens_are_one.ensures;
  lexical_one = c.first_faults_are_one.ensures;
  lexical_apart = c.tokens_have_no_fault.ensures;
  syntax_one = c.first_faults_are_one-2.ensures;
  file_one = c.words_determine_the_file.ensures;
}
