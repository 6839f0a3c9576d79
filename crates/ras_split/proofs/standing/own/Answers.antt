use Rattle.std.proofs.Common.{◌≡◌, sym, ◌∙◌, ap}
use Rattle.std.specs.Prelude.{Some, slice_get}
use Rattle.ras_closure.specs.declared.link.Link.{Link}
use Rattle.ras_closure.specs.Numbered.{IsImageLink}
use Rattle.ras_split.proofs.Owning.{own-base_at, own-image_at, index-standing}
use Rattle.ras_split.proofs.standing.own.Goals as goal

pub returns-then-is_no_param : goal.returns-then-is_no_param
returns-then-is_no_param c =
    rw c.in_ok-copy-in-Base.ensures
    (own-base_at c.args.closure.now c.known.ensures.table c.args.terms.now c.args.term.n c.term-base.result.now
    (rw (← c.table-in-Base.ensures) c.term-base.ensures) (rw (← c.table.ensures) (c.link.ensures ∙ ap (λ (l : Link). Some l) c.in-Base.is)) (c.is_no_param.ensures.0 c.if-is_no_param.true))

pub returns-in-Image : goal.returns-in-Image
returns-in-Image c =
    let link : IsImageLink c.args.closure.now.table.links c.args.term.n c.in-Image.of c.in-Image.function = rw (← c.table.ensures) (c.link.ensures ∙ ap (λ (l : Link). Some l) c.in-Image.is) in
    own-image_at c.args.closure.now c.known.ensures.table c.args.terms.now c.own_image.result c.args.term.n c.in-Image.of c.in-Image.function c.index-terms-class.result link
    (index-standing c.args.closure.now c.known.ensures.closure c.args.terms.now c.in-Image.of c.class_of-class.result c.index-terms-class.result c.requires.as_many
    (c.known.ensures.table.links.of_terms c.args.term.n c.in-Image.of c.in-Image.function link) c.class_of-class.ensures.class c.index-terms-class.is)
    c.own_image.ensures
