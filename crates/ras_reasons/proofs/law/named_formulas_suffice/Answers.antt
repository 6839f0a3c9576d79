use Rattle.ras_reasons.proofs.NamedFormulas.{names-within, named-suffice}
use Rattle.ras_reasons.proofs.law.named_formulas_suffice.Goals as goal

pub returns : goal.returns
returns c = record { within = names-within; suffice = named-suffice }
