use Rattle.ras_violation.proofs.Judged.{good_or_fault}
use Rattle.ras_check.proofs.EachVerdict.{each_verdict}
use Rattle.ras_check.proofs.law.each_evidence_has_a_verdict.Goals as goal

pub returns : goal.returns
returns c = λ system e is complete cubes.
    each_verdict (λ other d run. good_or_fault other d (λ one. c.a_fault_is_no_step.ensures one d) run) c.no_evidence_is_without_a_verdict.ensures system is e complete cubes
