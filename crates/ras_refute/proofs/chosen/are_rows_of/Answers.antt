use Rattle.std.proofs.Common.{◌≡◌, true, arith, refl, sym, ◌∙◌}
use Rattle.std.proofs.lemmas.Option.{slice_get-get_or}
use Rattle.ras_refute.proofs.Choices.{rows-from, rows-long, rows-wrong, rows-repeated, chosen-more}
use Rattle.ras_refute.proofs.chosen.are_rows_of.Goals as goal
use Rattle.ras_refute.proofs.chosen.are_rows_of.Goals.{then-not-is_row_of-via-then-not-is_row_of, then-not-is_row_of-via-else-not-is_row_of+then-is_repeated}

pub returns-then-chosen-formula : goal.returns-then-chosen-formula
returns-then-chosen-formula c = (λ no. absurd (cc), λ h. absurd (c.if-chosen-formula.true (rows-long c.args.premise.now c.args.formula.now c.args.chosen.now h)))

pub returns-then-not-is_row_of : goal.returns-then-not-is_row_of
returns-then-not-is_row_of c =
    let at = slice_get-get_or c.args.formula.now c.loop-k.k (record { n = 0 }) (omega (arith, c.loop-k-test.true, c.if-chosen-formula.false)) in (
      λ no. absurd (cc),
      λ of. absurd (elim c.then-not-is_row_of.branch [
        | then-not-is_row_of-via-then-not-is_row_of w ↦
            rows-wrong c.args.premise.now c.args.formula.now c.args.chosen.now c.loop-k.k c.loop-k-test.true
            (λ e. let yes_it : c.is_row_of.result ≡ true = c.is_row_of.ensures.1 (e ∙ at) in cc (yes_it, w.if-not-is_row_of.true)) of
        | then-not-is_row_of-via-else-not-is_row_of+then-is_repeated w ↦
            rows-repeated c.args.premise.now c.args.formula.now c.args.chosen.now c.loop-k.k c.loop-k-test.true (w.is_repeated.ensures.0 w.if-is_repeated.true) of
      ]),
    )

pub loop-k-preserved : goal.loop-k-preserved
loop-k-preserved c =
    let at = slice_get-get_or c.args.formula.now c.loop-k.k (record { n = 0 }) (omega (arith, c.loop-k-test.true, c.if-chosen-formula.false)) in
    chosen-more c.args.premise.now c.args.formula.now c.args.chosen.now c.loop-k.k c.loop-k.invariant (c.is_row_of.ensures.0 c.if-not-is_row_of.false ∙ sym at)
    (λ h. let yes_it : c.is_repeated.result ≡ true = c.is_repeated.ensures.1 h in cc (yes_it, c.if-is_repeated.false))

pub returns : goal.returns
returns c =
    (λ _. rows-from c.args.premise.now c.args.formula.now c.args.chosen.now c.loop-k.k (omega (arith, c.loop-k-test.false, c.loop-k.auto.k-end)) c.if-chosen-formula.false c.loop-k.invariant, λ _. refl)
