use Rattle.std.proofs.Common.{◌≡◌, ◌+◌, ◌<◌, true, false, List, take, length, get_or, sym, ◌∙◌, ap, subst, arith}
use Rattle.std.specs.Prelude.{All}
use Rattle.std.proofs.lemmas.Bool.{OnTrue_from, OnTrue_at}
use Rattle.std.proofs.lemmas.List.{take_all}
use Rattle.std.proofs.lemmas.List.Elements.{All-more}
use Rattle.ras_logic.specs.declared.literal.Literal.{Literal}
use Rattle.ras_logic.specs.Formulas.{replace}
use Rattle.ras_logic.specs.Refutations.{chosen_row}
use Rattle.ras_known.specs.Knowledge.{IsTruth}
use Rattle.ras_entail.proofs.judging.judge.Goals as goal
use Rattle.ras_entail.proofs.judging.judge.Goals.{in-Some-true, in-None}

pub loop-literal-preserved : goal.loop-literal-preserved
loop-literal-preserved c =
    let P : Literal → Type 0 = λ m. IsTruth c.args.known.now.shape.now c.args.known.now.premise.now (replace (chosen_row c.args.rows.now) m) true in
    let literals : List Literal = c.args.cube.now.literals in
    let items : c.literals-literal-items.result.now ≡ literals = c.literals-literal-items.ensures in
    let lt : c.loop-literal.literal-index < length literals = omega (arith, c.loop-literal-test.true, ap (λ (ls : List Literal). length ls) items) in
    let item : c.literal-item.result ≡ get_or literals c.loop-literal.literal-index c.literal-item.result =
    c.literal-item.is ∙ ap (λ (ls : List Literal). get_or ls c.loop-literal.literal-index c.literal-item.result) items in
    elim c.match-branch-2.branch [
      | in-Some-true w ↦
          OnTrue_from c.match-branch-2.all_hold (All P (take (c.loop-literal.literal-index + 1) literals))
          (λ e.
          All-more P literals c.loop-literal.literal-index c.literal-item.result lt (OnTrue_at (sym w.all_hold-is ∙ e) c.loop-literal.invariant)
          (subst P item
          (subst (IsTruth c.args.known.now.shape.now c.args.known.now.premise.now (replace (chosen_row c.args.rows.now) c.literal-item.result)) w.in-Some-true.field-0-test
          (rw w.in-Some-true.is at c.in_ok-truth_under.ensures))))
      | in-None w ↦
          OnTrue_from c.match-branch-2.all_hold (All P (take (c.loop-literal.literal-index + 1) literals)) (λ e. let no : false ≡ true = sym w.all_hold-is ∙ e in absurd (cc))
    ]

pub returns-then-all_hold : goal.returns-then-all_hold
returns-then-all_hold c =
    let P : Literal → Type 0 = λ m. IsTruth c.args.known.now.shape.now c.args.known.now.premise.now (replace (chosen_row c.args.rows.now) m) true in
    let literals : List Literal = c.args.cube.now.literals in
    let all : All P (take c.loop-literal.literal-index literals) = OnTrue_at c.if-all_hold.true c.loop-literal.invariant in
    subst (All P) (take_all c.loop-literal.literal-index literals (omega (arith, c.loop-literal-test.false, ap (λ (ls : List Literal). length ls) c.literals-literal-items.ensures))) all
