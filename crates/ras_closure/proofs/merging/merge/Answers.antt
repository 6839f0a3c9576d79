use Rattle.std.proofs.Common.{◌≡◌, ℕ, List, subst, sym}
use Rattle.std.specs.Prelude.{min, max}
use Rattle.ras_closure.specs.Classes.{class}
use Rattle.ras_closure.proofs.Merges.{IsMerged, merging, merged-answer}
use Rattle.ras_closure.proofs.merging.merge.Goals as goal

pub returns : goal.returns
returns c =
    let t = c.args.table.now in
    let marks = c.args.marks.now in
    let old = c.args.classes.now in
    let partial = c.requires.classes.partial in
    let to : c.min-to.result ≡ min (class old c.args.left) (class old c.args.right) = cc in
    let from : c.max-from.result ≡ max (class old c.args.left) (class old c.args.right) = cc in
    let made = merging t c.known.ensures marks old partial c.requires.classes.width c.args.left c.args.right c.min-to.result c.max-from.result c.requires.pair.left c.requires.pair.right
    c.requires.pair.together c.requires.differ to from in
    let m : IsMerged t c.known.ensures marks old partial c.relabel.new.self c.args.left c.args.right c.min-to.result c.max-from.result =
    subst (λ (cs : List ℕ). IsMerged t c.known.ensures marks old partial cs c.args.left c.args.right c.min-to.result c.max-from.result) (sym c.relabel.ensures) made in
    record {
      partial = m.still;
      coarser = m.coarser;
      merged = m.merged;
      fewer = m.fewer;
      clash = merged-answer t c.known.ensures marks old partial c.args.left c.args.right c.min-to.result c.max-from.result c.relabel.new.self m c.find_conflict-clash.result c.find_conflict-clash.ensures;
    }
