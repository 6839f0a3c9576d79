use Rattle.std.proofs.Common.{◌≡◌, ℕ, false, true, subst, arith}
use Rattle.ras_reasons.specs.Marking.{IsMarking, AreMarked}
use Rattle.ras_reasons.proofs.Marks.{mark-read, marked-here, marked-other, marked-named}
use Rattle.ras_reasons.proofs.named.named_formulas.Goals.{then-index+in_ok-push, else-index}
use Rattle.ras_reasons.proofs.named.named_formulas.Goals as goal

pub marks_of-requires : goal.marks_of-requires
marks_of-requires c = rw c.as_slice.ensures.items c.requires

pub loop-number-preserved : goal.loop-number-preserved
loop-number-preserved c =
    elim c.if-index.branch [
      | then-index+in_ok-push w ↦
          rw (w.numbers-is, w.in_ok-push.ensures.items) (marked-here c.in_ok-marks.marks.items c.loop-number.number c.loop-number.numbers.items c.loop-number.invariant (mark-read c.as_slice.result.now c.args.count c.in_ok-marks.marks.items c.in_ok-marks.ensures c.loop-number.number c.index.result.now true c.loop-number-test.true c.index.ensures w.if-index.true))
      | else-index w ↦ rw w.numbers-is (marked-other c.in_ok-marks.marks.items c.loop-number.number c.loop-number.numbers.items c.loop-number.invariant (mark-read c.as_slice.result.now c.args.count c.in_ok-marks.marks.items c.in_ok-marks.ensures c.loop-number.number c.index.result.now false c.loop-number-test.true c.index.ensures w.if-index.false))
    ]

pub returns : goal.returns
returns c =
    let end : c.loop-number.number ≡ c.args.count = let le = c.loop-number.auto.number-end in let no = c.loop-number-test.false in omega (arith, le, no) in
    marked-named c.args.tree.now.nodes c.args.count c.in_ok-marks.marks.items c.loop-number.numbers.items c.requires
    (subst (λ ns. IsMarking ns c.args.count c.in_ok-marks.marks.items) c.as_slice.ensures.items c.in_ok-marks.ensures)
    (subst (λ (n : ℕ). AreMarked c.in_ok-marks.marks.items n c.loop-number.numbers.items) end c.loop-number.invariant)
