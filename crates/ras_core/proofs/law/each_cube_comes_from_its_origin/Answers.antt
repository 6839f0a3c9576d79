use Rattle.ras_core.proofs.Journals.{journal-sound}
use Rattle.ras_core.proofs.law.each_cube_comes_from_its_origin.Goals as goal

pub returns-clause-entry : goal.returns-clause-entry
returns-clause-entry c = λ system budget base journal s r i e known. ((journal-sound system budget base journal s r).entries i e known).comes

pub returns-clause-hit : goal.returns-clause-hit
returns-clause-hit c = λ system budget base journal s r f h. ((journal-sound system budget base journal s r).hit f h).0

pub returns-clause-spill : goal.returns-clause-spill
returns-clause-spill c = λ system budget base journal s r f h. ((journal-sound system budget base journal s r).spill f h).0.comes
