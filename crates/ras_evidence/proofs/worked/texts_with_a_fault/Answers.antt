use Rattle.std.proofs.Common.{[], ◌∷◌, refl, codes}
use Rattle.ras_evidence.specs.declared.header.Verdict.TheVariants.{Unknown}
use Rattle.ras_evidence.proofs.TextLaws.{ended_read, misfit_read}
use Rattle.ras_evidence.specs.Worked.{cut_text, no_budget_text}
use Rattle.ras_evidence.proofs.worked.texts_with_a_fault.Goals as goal

pub returns-clause-cut : goal.returns-clause-cut
returns-clause-cut c = ended_read cut_text refl

pub returns-clause-no_budget : goal.returns-clause-no_budget
returns-clause-no_budget c = misfit_read no_budget_text (codes "budget 0") (codes "end" ∷ []) (record { version = 1; verdict = Unknown }) (codes "budget 0" ∷ codes "end" ∷ []) refl refl refl
