use Rattle.std.proofs.Common.{◌≡◌, ◌++◌, [], List, map, take, drop, sym, ◌∙◌, ap}
use Rattle.std.proofs.lemmas.List.{take_all, drop_all}
use Rattle.ras_logic.specs.Formulas.{replace}
use Rattle.ras_system.specs.declared.bulk.Bulk.{Bulk}
use Rattle.ras_system.specs.Preimages.{renumbered_row, refusals, case_choices_from}
use Rattle.ras_backwards.proofs.Combinations.{cases_of}
use Rattle.ras_preimage.specs.Parts.{way_of, in_problem}
use Rattle.ras_preimage.proofs.Refusals.{case-before, case-ways, ways-end}
use Rattle.ras_preimage.proofs.ways.ways_of.Goals as goal

pub loop-i-preserved : goal.loop-i-preserved
loop-i-preserved c = record {
  before = case-before c.args.updated c.args.number c.args.bulk.now c.args.relation c.loop-i.i c.index-bulk-i.result c.loop-i.before c.add_case.new.before
      c.loop-i-test.true c.index-bulk-i.is c.loop-i.invariant.before c.in_ok-add_case.ensures.before;
  ways = case-ways c.args.updated c.args.number c.args.bulk.now c.args.relation c.loop-i.i c.index-bulk-i.result c.loop-i.before c.loop-i.ways c.add_case.new.ways
      c.loop-i-test.true c.index-bulk-i.is c.loop-i.invariant.before c.in_ok-add_case.ensures.ways c.loop-i.invariant.ways;
}

pub returns : goal.returns
returns c =
    let bulk : List Bulk = c.args.bulk.now in
    let all : take c.loop-i.i bulk ≡ bulk = take_all _ _ c.loop-i-test.false in
    let none : drop c.loop-i.i bulk ≡ [] = drop_all _ _ c.loop-i-test.false in
    ap (map (way_of bulk)) c.in_ok-add_none.ensures
    ∙ ways-end c.args.updated c.args.number bulk c.args.relation c.loop-i.before c.loop-i.ways
    (c.loop-i.invariant.before ∙ ap (λ (bs : List Bulk). map (map (replace (renumbered_row c.args.updated c.args.number))) (refusals (cases_of bs c.args.relation))) all)
    (ap (λ (bs : List Bulk). map (way_of bulk) c.loop-i.ways ++ map (in_problem c.args.updated) (case_choices_from c.args.number (cases_of bs c.args.relation) [])) (sym all)
    ∙ ap (λ (bs : List Bulk). map (way_of bulk) c.loop-i.ways ++ map (in_problem c.args.updated) (case_choices_from c.args.number (cases_of (take c.loop-i.i bulk) c.args.relation) (cases_of bs c.args.relation))) (sym none)
    ∙ c.loop-i.invariant.ways)
