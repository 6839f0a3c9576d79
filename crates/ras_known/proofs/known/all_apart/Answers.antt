use Rattle.std.proofs.Common.{List, sym, subst}
use Rattle.std.specs.Prelude.{Contains}
use Rattle.std.proofs.lemmas.List.Elements.{All-push}
use Rattle.ras_logic.specs.declared.literal.Literal.{Literal}
use Rattle.ras_known.specs.Knowledge.{AreApart}
use Rattle.ras_known.proofs.KnownTruth.{stated-apart}
use Rattle.ras_known.proofs.known.all_apart.Goals as goal
use Rattle.ras_known.proofs.known.all_apart.Goals.{in-Some+in_ok-push, in_default}

pub loop-literal-preserved : goal.loop-literal-preserved
loop-literal-preserved c =
    elim c.match-apart_by.branch [
      | in-Some+in_ok-push w ↦
          rw (w.all-is, w.in_ok-push.ensures.items)
          (All-push (AreApart c.args.shape.now c.args.premise.now c.args.closure.now) c.loop-literal.all.items w.in-Some.sides c.loop-literal.invariant
          (stated-apart c.args.shape.now c.args.premise.now c.args.closure.now c.requires c.known.ensures.table c.known.ensures.closure c.literal-item.result
          (subst (λ (ls : List Literal). Contains ls c.literal-item.result) c.as_slice-literal-items.ensures.items (c.loop-literal.literal-index, c.loop-literal-test.true, sym c.literal-item.is))
          w.in-Some.ensures.apart w.in-Some.sides w.in-Some.ensures.classes))
      | in_default w ↦ rw w.all-is c.loop-literal.invariant
    ]
