use Rattle.std.proofs.Common.{◌∙◌, sym}
use Rattle.ras_closure.specs.Rules.{by_undef, by_total}
use Rattle.ras_closure.proofs.saturation.find_pending_undef.Goals as goal

pub returns-then-image-undef_image : goal.returns-then-image-undef_image
returns-then-image-undef_image c = record {
  forced = by_undef c.args.i c.args.of c.args.function c.function-decl.result c.requires.link c.function-decl.ensures.known
      (sym c.of-argument.ensures ∙ c.if-argument-undef_argument.true ∙ c.of-undef_argument.ensures);
  differ = λ h. c.if-image-undef_image.true (c.of-image.ensures ∙ h ∙ sym c.of-undef_image.ensures);
  left = c.requires.within;
  right = c.function-decl.ensures.target;
}

pub returns-then-image-undef_image-2 : goal.returns-then-image-undef_image-2
returns-then-image-undef_image-2 c = record {
  forced = by_total c.args.i c.args.of c.args.function c.function-decl.result c.requires.link c.function-decl.ensures.known c.if-decl.true
      (sym c.of-image.ensures ∙ c.if-image-undef_image-2.true ∙ c.of-undef_image.ensures);
  differ = λ h. c.if-argument-undef_argument.false (c.of-argument.ensures ∙ h ∙ sym c.of-undef_argument.ensures);
  left = c.known.ensures.links.of_terms c.args.i c.args.of c.args.function c.requires.link;
  right = c.function-decl.ensures.source;
}
