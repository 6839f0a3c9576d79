use Rattle.std.proofs.Common.{ℕ, sym, ◌∙◌, subst}
use Rattle.ras_closure.specs.Signatures.{RecordsImage}
use Rattle.ras_closure.proofs.CongruentImages.{records-base, records-at, congruent-pending}
use Rattle.ras_closure.proofs.saturation.find_pending_at.Goals as goal

pub returns-in-Base-clause-found : goal.returns-in-Base-clause-found
returns-in-Base-clause-found c = records-base c.args.table.now c.args.classes.now c.args.signatures.now c.args.i c.in-Base.ensures

pub find_congruent_image-congruent-requires-clause-image : goal.find_congruent_image-congruent-requires-clause-image
find_congruent_image-congruent-requires-clause-image c = record { of = c.in-Image.of; link = c.in-Image.ensures; argument = sym c.of-argument.ensures }

pub returns-then-image-congruent_image-clause-found : goal.returns-then-image-congruent_image-clause-found
returns-then-image-congruent_image-clause-found c =
    let t = c.args.table.now in
    let classes = c.args.classes.now in
    let old = c.args.signatures.now in
    let new = c.find_congruent_image-congruent.new.signatures in
    records-at t classes old new c.args.i c.in-Image.of c.find_congruent_image-congruent.result c.in-Image.function c.in-Image.ensures c.in_default.ensures
    (subst (λ (k : ℕ). RecordsImage t classes old new c.in-Image.function k c.find_congruent_image-congruent.result) c.of-argument.ensures c.find_congruent_image-congruent.ensures)
    (sym c.of-congruent_image.ensures ∙ sym c.if-image-congruent_image.true ∙ c.of-image.ensures)

pub returns-else-image-congruent_image-clause-found : goal.returns-else-image-congruent_image-clause-found
returns-else-image-congruent_image-clause-found c =
    let t = c.args.table.now in
    let classes = c.args.classes.now in
    let old = c.args.signatures.now in
    let new = c.find_congruent_image-congruent.new.signatures in
    congruent-pending t classes old new c.args.i c.in-Image.of c.find_congruent_image-congruent.result c.in-Image.function c.known.ensures c.requires.within c.in-Image.ensures
    (subst (λ (k : ℕ). RecordsImage t classes old new c.in-Image.function k c.find_congruent_image-congruent.result) c.of-argument.ensures c.find_congruent_image-congruent.ensures)
    (λ h. c.if-image-congruent_image.false (c.of-image.ensures ∙ h ∙ sym c.of-congruent_image.ensures))
