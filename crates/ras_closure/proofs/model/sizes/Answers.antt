use Rattle.ras_closure.proofs.model.sizes.Goals as goal

pub size-requires-clause-few : goal.size-requires-clause-few
size-requires-clause-few c = c.requires.elements.few (record { n = c.loop-sort.sort })
