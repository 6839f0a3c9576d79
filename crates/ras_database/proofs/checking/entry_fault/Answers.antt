use Rattle.std.proofs.Common.{rules}
use Rattle.std.proofs.lemmas.List.Elements.{All-more}
use Rattle.ras_logic.proofs.AllSteps.{all_done}
use Rattle.ras_database.specs.DatabaseFaults.{IsEntry}
use Rattle.ras_database.proofs.Passing.{table_from}
use Rattle.ras_database.proofs.checking.entry_fault.Goals as goal
use Rattle.ras_database.proofs.checking.entry_fault.Goals.{else-decl-via-then-decl+else-x-eq0, else-decl-via-else-decl}

pub loop-k-preserved : goal.loop-k-preserved
loop-k-preserved c =
    All-more (IsEntry c.args.raw.now c.args.decl) c.args.table.now c.loop-k.k 0 c.loop-k-test.true c.loop-k.invariant
    (elim c.else-decl.branch [
      | else-decl-via-then-decl+else-x-eq0 w ↦ record { in_target = search rules; total = λ h. search rules }
      | else-decl-via-else-decl w ↦ record { in_target = search rules; total = λ h. absurd (cc) }
    ])

pub returns-clause-none : goal.returns-clause-none
returns-clause-none c =
    table_from c.args.raw.now c.args.decl c.args.table.now c.requires.as_long
    (all_done (IsEntry c.args.raw.now c.args.decl) c.args.table.now c.loop-k.k c.loop-k-test.false c.loop-k.invariant)
