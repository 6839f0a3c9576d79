use Rattle.ras_cli.proofs.Agreeing.{answers_agree}
use Rattle.ras_cli.proofs.law.told_files_come_to_one_answer.Goals as goal

pub returns : goal.returns
returns c = λ words told before after. answers_agree record {
  verdict_once = c.an_evidence_is_judged_in_one_way.ensures;
  no_violation = c.a_fault_is_no_violation.ensures;
  violation_fault_once = c.the_first_fault_is_one.ensures;
  replay_once = c.a_violation_has_one_text.ensures;
  evidence_once = c.bytes_have_one_evidence.ensures;
  evidence_fault_once = c.bytes_have_one_first_fault.ensures;
  evidence_apart = c.a_text_has_no_fault.ensures;
  bundle_once = c.bytes_are_one_bundle.ensures;
  bundle_fault_once = c.bytes_have_one_bundle_fault.ensures;
  bundle_apart = c.a_bundle_has_no_fault.ensures;
  spec_once = c.a_text_denotes_one_system.ensures;
  file_fault_once = c.a_text_has_one_fault.ensures;
  file_apart = c.a_text_with_a_fault_denotes_nothing.ensures;
  print_once = c.a_system_has_one_text.ensures;
} told before after words
