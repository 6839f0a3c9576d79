use Rattle.std.proofs.Common.{◌≡◌, ◌∙◌, ℕ, List, length, get_or, subst, arith}
use Rattle.std.specs.Prelude.{Option, None, MatchOption}
use Rattle.ras_closure.specs.Spares.{sized}
use Rattle.ras_closure.specs.Images.{AreImages}
use Rattle.ras_closure.proofs.Gaps.{image-is, first-more, first-table}
use Rattle.ras_closure.proofs.function_tables.table_of.Goals as goal

pub loop-k-preserved : goal.loop-k-preserved
loop-k-preserved c =
    rw c.in_ok-push.ensures.ok
    (first-more c.args.table.now c.args.elements.now.numbers.items c.args.elements.now.counts.items c.args.spares.now c.args.function c.args.decl c.loop-k.k c.image_or-image.result
    c.loop-k.column c.loop-k.invariant
    (image-is c.args.table.now c.known.ensures c.args.elements.now.numbers.items c.args.elements.now.counts.items c.requires.elements c.args.function c.args.decl c.in_ok-images.images.items
    (subst (λ (ns : List ℕ). AreImages c.args.table.now ns c.args.function (length c.args.table.now.terms) c.in_ok-images.images.items) c.deref.ensures.value c.in_ok-images.ensures.images) c.args.spares.now c.requires.known (c.in_ok-images.ensures.long ∙ c.count_of-count.ensures) c.loop-k.k c.image_or-image.result c.missing_image-missing.result
    c.missing_image-missing.ensures
    (subst (λ (xs : List (Option ℕ)). MatchOption (get_or xs c.loop-k.k None) (c.image_or-image.result ≡ c.missing_image-missing.result) (λ y. c.image_or-image.result ≡ y))
    c.deref-in-loop-k.ensures.value c.image_or-image.ensures)))

pub returns : goal.returns
returns c =
    let all : c.loop-k.k ≡ sized c.args.elements.now.counts.items c.args.spares.now c.args.decl.source = omega (arith, c.size-k-end.ensures, c.loop-k.auto.k-end) in
    first-table c.args.table.now c.args.elements.now.numbers.items c.args.elements.now.counts.items c.args.spares.now c.args.function c.args.decl c.loop-k.k c.loop-k.column all c.loop-k.invariant
