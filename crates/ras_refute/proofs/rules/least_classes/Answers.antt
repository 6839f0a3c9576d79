use Rattle.std.proofs.Common.{drop, length, sym, ◌∙◌, ap}
use Rattle.std.proofs.lemmas.List.{take_at}
use Rattle.ras_refute.proofs.Clashing.{separate-partial}
use Rattle.ras_refute.proofs.rules.least_classes.Goals as goal

pub close-requires : goal.close-requires
close-requires c =
    rw (c.deref_mut.ensures.value)
    (separate-partial c.args.schema.now c.args.facts.now c.args.table.now c.in_ok-classes.classes.items c.requires (rw (← c.len.ensures.count) c.in_ok-classes.ensures.0) (rw (← c.len.ensures.count) c.in_ok-classes.ensures.1))

pub returns : goal.returns
returns c =
    rw (take_at c.close.new.classes (drop (length c.close.new.classes) c.in_ok-classes.classes.items) c.in_ok-classes.classes.len
    (c.close.ensures.partial.as_many ∙ sym c.len.ensures.count ∙ sym c.in_ok-classes.ensures.0 ∙ sym (ap length c.deref_mut.ensures.value) ∙ c.deref_mut.ensures.len))
    c.close.ensures
