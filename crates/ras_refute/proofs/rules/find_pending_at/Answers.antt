use Rattle.std.proofs.Common.{arith}
use Rattle.std.proofs.lemmas.Option.{slice_get_within, gets}
use Rattle.std.proofs.lemmas.Grind.{common_steps}
use Rattle.ras_refute.specs.declared.entry.Entry.TheVariants.{Image}
use Rattle.ras_refute.specs.Classes.{IsCongruentImage, IsImage, by_images}
use Rattle.ras_refute.proofs.rules.find_pending_at.Goals as goal

pub returns-in_ok-other-in-Image : goal.returns-in_ok-other-in-Image
returns-in_ok-other-in-Image c = λ facts.
    let u : IsCongruentImage c.args.table.now.entries c.args.classes.now c.args.i c.in-Image.of c.in-Image.function c.in_ok-other-in-Image.other = c.in_ok-other-in-Image.ensures in
    let image : IsImage c.args.table.now.entries c.args.i c.in-Image.of c.in-Image.function = grind (arith, common_steps, gets) in
    record {
      due = by_images c.args.i c.in_ok-other-in-Image.other c.in-Image.of u.argument c.in-Image.function image u.image u.arguments;
      differ = u.differ;
      left = c.requires.within;
      right = slice_get_within c.args.table.now.entries c.in_ok-other-in-Image.other (Image u.argument c.in-Image.function) u.image;
    }
