use Rattle.ras_core.proofs.Journals.{journal-sound}
use Rattle.ras_core.proofs.Tight.{entry-tight, spill-tight}
use Rattle.ras_core.proofs.law.each_cube_is_tight.Goals as goal

pub returns-clause-entry_rows : goal.returns-clause-entry_rows
returns-clause-entry_rows c = λ system budget base journal s r i from transition e target t known origin target_known.
    (entry-tight system s e.origin e.cube from transition target origin target_known i ((journal-sound system budget base journal s r).entries i e known)).rows t

pub returns-clause-entry_literals : goal.returns-clause-entry_literals
returns-clause-entry_literals c = λ system budget base journal s r i from transition e target k known origin target_known.
    (entry-tight system s e.origin e.cube from transition target origin target_known i ((journal-sound system budget base journal s r).entries i e known)).needed k

pub returns-clause-spill_rows : goal.returns-clause-spill_rows
returns-clause-spill_rows c = λ system budget base journal s r from transition f target t h origin target_known.
    (spill-tight system s f.origin f.cube from transition target origin target_known ((journal-sound system budget base journal s r).spill f h).0).rows t

pub returns-clause-spill_literals : goal.returns-clause-spill_literals
returns-clause-spill_literals c = λ system budget base journal s r from transition f target k h origin target_known.
    (spill-tight system s f.origin f.cube from transition target origin target_known ((journal-sound system budget base journal s r).spill f h).0).needed k
