use Rattle.std.proofs.Common.{◌≡◌, sym, ◌∙◌}
use Rattle.ras_split.proofs.Owning.{index-standing, some-there}
use Rattle.ras_split.proofs.standing.is_kept.Goals as goal

pub returns : goal.returns
returns c yes_is t at =
    let are = c.requires.standing.are in
    let is = index-standing c.args.closure.now c.known.ensures.closure c.args.terms.now c.args.term.n c.class_of-class.result c.index-terms-class.result are.as_many c.requires.known
    c.class_of-class.ensures.class c.index-terms-class.is in
    let x = some-there c.index-terms-class.result (sym c.is_some.ensures ∙ yes_is) in
    record { by = x.0; stands = are.sound c.args.term.n t x.0 at (sym is ∙ x.1) }
