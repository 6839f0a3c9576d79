use Rattle.ras_check.proofs.OneVerdict.{one_verdict}
use Rattle.ras_check.proofs.law.an_evidence_is_judged_in_one_way.Goals as goal

pub returns : goal.returns
returns c = λ system e v w h k.
    one_verdict c.a_fault_is_not_good.ensures c.the_first_fault_is_one.ensures c.a_fault_is_no_violation.ensures c.the_first_fault_is_one-2.ensures
    c.a_fault_is_not_good-2.ensures c.the_first_fault_is_one-3.ensures system e v w h k
