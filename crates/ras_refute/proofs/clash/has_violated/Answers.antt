use Rattle.ras_refute.proofs.Clashing.{violated-told}
use Rattle.ras_refute.proofs.clash.has_violated.Goals as goal

pub returns : goal.returns
returns c = rw c.is_some.ensures (violated-told c.args.facts.now c.args.table.now.sides c.args.classes.now c.find_violated_fact.result c.find_violated_fact.ensures)
