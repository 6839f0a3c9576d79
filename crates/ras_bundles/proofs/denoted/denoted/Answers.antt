use Rattle.std.proofs.Common.{sym, ◌∙◌, ap, subst}
use Rattle.ras_bundles.specs.Numbers.{numbers_of}
use Rattle.ras_bundles.specs.Bundles.{IsPlainSystem}
use Rattle.ras_bundles.proofs.DenotedLaws.{judged_shape, judged_system, steps_stop}
use Rattle.ras_bundles.proofs.denoted.denoted.Goals as goal

pub shape_of-requires-clause-schema : goal.shape_of-requires-clause-schema
shape_of-requires-clause-schema c = (judged_shape c.args.lines c.in_ok-next.next c.in_ok-next.ensures.judges).schema_limits

pub shape_of-requires-clause-limits : goal.shape_of-requires-clause-limits
shape_of-requires-clause-limits c = (judged_shape c.args.lines c.in_ok-next.next c.in_ok-next.ensures.judges).limits

pub shape_of-requires-clause-shape : goal.shape_of-requires-clause-shape
shape_of-requires-clause-shape c = (judged_shape c.args.lines c.in_ok-next.next c.in_ok-next.ensures.judges).shape

pub returns-in_err-judge_steps-clause-fault : goal.returns-in_err-judge_steps-clause-fault
returns-in_err-judge_steps-clause-fault c =
    steps_stop c.args.lines c.in_ok-next.next c.in_ok-next.ensures.judges c.in_ok-shape.shape c.in_err-judge_steps.field-0.0 c.from_residual-in_err-judge_steps.result c.in_ok-shape.ensures
    c.in_err-judge_steps.ensures c.from_residual-in_err-judge_steps.ensures.1

pub system_of-requires-clause-plain : goal.system_of-requires-clause-plain
system_of-requires-clause-plain c =
    (judged_system c.args.lines c.in_ok-next.next c.in_ok-next.ensures.judges c.requires c.in_ok-shape.shape c.in_ok-judge_steps.field-0 c.in_ok-shape.ensures c.in_ok-judge_steps.ensures).plain

pub returns-clause-numbers : goal.returns-clause-numbers
returns-clause-numbers c =
    ap numbers_of c.in_ok-system_of.ensures
    ∙ (judged_system c.args.lines c.in_ok-next.next c.in_ok-next.ensures.judges c.requires c.in_ok-shape.shape c.in_ok-judge_steps.field-0 c.in_ok-shape.ensures c.in_ok-judge_steps.ensures).numbers

pub returns-clause-plain : goal.returns-clause-plain
returns-clause-plain c =
    subst IsPlainSystem (sym c.in_ok-system_of.ensures)
    (judged_system c.args.lines c.in_ok-next.next c.in_ok-next.ensures.judges c.requires c.in_ok-shape.shape c.in_ok-judge_steps.field-0 c.in_ok-shape.ensures c.in_ok-judge_steps.ensures).plain
