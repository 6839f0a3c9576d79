use Rattle.std.proofs.Common.{List, subst, sym}
use Rattle.ras_refute.specs.declared.entry.Entry.{Entry}
use Rattle.ras_refute.specs.Tables.{AddsUndefs}
use Rattle.ras_refute.proofs.Tables.{adds-no_undefs, adds-undef}
use Rattle.ras_refute.proofs.table.place_undefs.Goals as goal

pub loop-n-init : goal.loop-n-init
loop-n-init c = subst (λ (es : List Entry). AddsUndefs 0 es) (sym c.requires) adds-no_undefs

pub loop-n-preserved : goal.loop-n-preserved
loop-n-preserved c = rw c.in_ok-push.ensures.ok (adds-undef c.loop-n.n c.loop-n.entries c.loop-n.invariant)
