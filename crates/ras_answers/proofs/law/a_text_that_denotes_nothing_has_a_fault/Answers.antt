use Rattle.std.proofs.Common.{inl, inr}
use Rattle.ras_answers.proofs.law.a_text_that_denotes_nothing_has_a_fault.Goals as goal

pub returns : goal.returns
returns c = λ bytes nothing. elim (c.a_text_denotes_a_system_or_has_a_fault.ensures bytes) [
  | inl d ↦ absurd (nothing d.0 d.1 d.2)
  | inr fault ↦ fault
]
