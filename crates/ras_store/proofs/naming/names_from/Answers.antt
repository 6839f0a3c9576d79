use Rattle.ras_store.proofs.Names.{named_on}
use Rattle.ras_store.proofs.naming.names_from.Goals as goal

pub loop-number-preserved : goal.loop-number-preserved
loop-number-preserved c =
    named_on c.args.from c.loop-number.number c.args.entries.now c.loop-number.names.items c.push.new.self.items c.index-entries-number.result c.in_ok-name.field-0
    c.loop-number.auto.number c.loop-number-test.true c.index-entries-number.is c.loop-number.invariant c.in_ok-name.ensures c.in_ok-push.ensures.items
