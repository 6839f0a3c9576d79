use Rattle.std.proofs.Common.{◌≤◌, length}
use Rattle.ras_refute.proofs.Naming.{named-apart}
use Rattle.ras_refute.proofs.clash.has_distinct.Goals as goal

pub returns : goal.returns
returns c =
    let all : length c.args.table.now.entries ≤ c.loop-i.i = rw (← c.as_slice-entry-items.ensures.items) c.loop-i-test.false in (
      λ no. absurd (cc),
      λ h. absurd (named-apart c.args.table.now.entries c.args.classes.now c.loop-i.named.items c.loop-i.i all c.loop-i.invariant h),
    )
