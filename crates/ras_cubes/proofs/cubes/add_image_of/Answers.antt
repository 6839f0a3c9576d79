use Rattle.std.proofs.Common.{◌≡◌, true, false, sym, ◌∙◌, ap}
use Rattle.std.specs.Prelude.{Some, slice_get}
use Rattle.ras_split.specs.Standing.{standing}
use Rattle.ras_split.proofs.Owning.{index-standing, none-there, not-false}
use Rattle.ras_cubes.proofs.Adding.{image-added}
use Rattle.ras_cubes.proofs.cubes.add_image_of.Goals as goal

pub returns : goal.returns
returns c =
    let of = c.known.ensures.table.links.of_terms c.args.image.n c.args.of c.args.function c.requires.link in
    let argument = index-standing c.args.closure.now c.known.ensures.closure c.args.terms.now c.args.of c.class_of-argument.result c.index-terms-argument.result c.requires.as_many of
    c.class_of-argument.ensures.class c.index-terms-argument.is in
    let is = index-standing c.args.closure.now c.known.ensures.closure c.args.terms.now c.args.image.n c.class_of-class.result c.index-terms-class.result c.requires.as_many c.requires.known
    c.class_of-class.ensures.class c.index-terms-class.is in
    let none = none-there c.index-terms-argument.result (sym c.is_some.ensures ∙ c.if-is_some.false) in
    rw (c.in_ok-push.ensures.ok, c.in_ok-left.ensures, c.undef_term.ensures)
    (image-added c.args.closure.now c.known.ensures.table c.args.terms.now c.args.literals.now c.args.image.n c.args.of c.args.function c.function-decl.result c.requires.link
    (rw (← c.table.ensures) c.function-decl.ensures.known) c.in-Some.by (not-false c.function-decl.result.total c.if-not-decl.false) (sym argument ∙ none) (sym is ∙ c.in-Some.is))
