use Rattle.std.proofs.Common.{◌≡◌, ◌∙◌, ℕ, ◌<◌, List, length, get_or, subst}
use Rattle.std.specs.Prelude.{Option, None}
use Rattle.std.specs.Bool.{OnTrue, OnFalse}
use Rattle.ras_closure.specs.Images.{AreImages}
use Rattle.ras_closure.proofs.Gaps.{gap-answer}
use Rattle.ras_closure.proofs.spares.is_lacking.Goals as goal

pub returns-then-decl : goal.returns-then-decl
returns-then-decl c =
    gap-answer c.args.table.now c.known.ensures c.args.elements.now.numbers.items c.args.elements.now.counts.items c.requires.elements c.args.function c.args.decl c.in_ok-images.images.items
    (subst (λ (ns : List ℕ). AreImages c.args.table.now ns c.args.function (length c.args.table.now.terms) c.in_ok-images.images.items) c.deref.ensures.value c.in_ok-images.ensures.images)
    c.if-decl.true (c.in_ok-images.ensures.long ∙ c.count_of-count.ensures) c.has_gap-gap.result
    (subst (λ (xs : List (Option ℕ)). OnTrue c.has_gap-gap.result ((x : ℕ) × (x < length xs) × (get_or xs x None ≡ None))) c.deref-then-decl.ensures.value c.has_gap-gap.ensures.gap)
    (subst (λ (xs : List (Option ℕ)). OnFalse c.has_gap-gap.result ((x : ℕ) → x < length xs → get_or xs x None ≡ None → ⊥)) c.deref-then-decl.ensures.value c.has_gap-gap.ensures.full)
