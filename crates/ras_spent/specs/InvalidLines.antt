-- The line that tells what is wrong with an evidence of a spent budget.
use Rattle.std.specs.Prelude.{List, ℕ, ◌++◌, codes}
use Rattle.ras_text.specs.Pieces.{word}
use Rattle.ras_violation.specs.InvalidLines.{database_text, step_text}
use Rattle.ras_spent.specs.declared.spent_fault.EntryFault.{EntryFault}
use Rattle.ras_spent.specs.declared.spent_fault.EntryFault.TheVariants as fault
use Rattle.ras_spent.specs.declared.spent_fault.SpentFault.{SpentFault}

-- ` start EARLIER K`
abbrev pub earlier_text : ℕ → List ℕ
earlier_text number = codes " start EARLIER" ++ (word number ++ codes "\n")

-- what is wrong with an entry, and the end of the line
abbrev pub entry_text : EntryFault → List ℕ
entry_text fault.NotFitting = codes " cube NOT_FITTING\n"
entry_text fault.Initial = codes " cube INITIAL\n"
entry_text (fault.Database f) = database_text f
entry_text fault.StartNotFitting = codes " start NOT_FITTING\n"
entry_text fault.Outside = codes " start OUTSIDE\n"
entry_text (fault.Earlier number) = earlier_text number
entry_text (fault.Step f) = step_text f
entry_text fault.EndNotUnsafe = codes " end NOT_UNSAFE\n"

-- `INVALID entry I ..`
abbrev pub invalid_text : SpentFault → List ℕ
invalid_text f = codes "INVALID entry" ++ (word f.entry ++ entry_text f.fault)
