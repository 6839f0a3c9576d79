use Rattle.ras_check.proofs.CompleteTexts.{writable_complete, writable_cubes}
use Rattle.ras_check.proofs.law.a_text_is_complete.Goals as goal

pub returns-clause-complete : goal.returns-clause-complete
returns-clause-complete c = λ bytes e text. writable_complete e text.1.writable.0

pub returns-clause-cubes : goal.returns-clause-cubes
returns-clause-cubes c = λ bytes e text. writable_cubes e text.1.writable.0
