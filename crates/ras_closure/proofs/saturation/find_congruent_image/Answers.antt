use Rattle.std.proofs.Common.{ℕ, subst, sym, ◌∙◌}
use Rattle.ras_closure.specs.Signatures.{IsImageOf, RecordsImage}
use Rattle.ras_closure.proofs.CongruentImages.{records-put, records-known}
use Rattle.ras_closure.proofs.Cases.{true_false}
use Rattle.ras_closure.proofs.saturation.find_congruent_image.Goals as goal

pub returns-then-is_image_of : goal.returns-then-is_image_of
returns-then-is_image_of c =
    let t = c.args.table.now in
    let classes = c.args.classes.now in
    let old = c.args.signatures.now in
    let e = c.image-congruent.ensures in
    let is = c.is_image_of.ensures.0 c.if-is_image_of.true in
    subst (λ (k : ℕ). RecordsImage t classes old old c.args.function c.args.class k) (sym e)
    (records-known t classes old c.args.function c.args.class (subst (λ (k : ℕ). IsImageOf t classes c.args.function c.args.class k) e is))

pub returns : goal.returns
returns c =
    rw c.put.ensures
    (records-put c.args.table.now c.args.classes.now c.args.signatures.now c.args.function c.args.class c.args.i c.known-2.ensures
    (rw c.requires.functions (c.known.ensures.links.of_functions c.args.i c.requires.image.of c.args.function c.requires.image.link)) (rw c.requires.width c.requires.below) c.requires.image
    (λ h. true_false (sym (c.is_image_of.ensures.1 (subst (λ (k : ℕ). IsImageOf c.args.table.now c.args.classes.now c.args.function c.args.class k) (sym c.image-congruent.ensures) h)) ∙ c.if-is_image_of.false)))
