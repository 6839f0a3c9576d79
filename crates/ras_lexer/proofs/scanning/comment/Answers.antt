use Rattle.std.proofs.Common.{sym, subst}
use Rattle.std.specs.Str.{IsValidUpTo}
use Rattle.ras_lexer.proofs.Fronts.{run_comment}
use Rattle.ras_lexer.proofs.scanning.comment.Goals as goal

pub returns-in-Ok : goal.returns-in-Ok
returns-in-Ok c =
    let run = c.comment_length-length in
    (run_comment c.args.bytes.now run.result run.ensures.value, c.in-Ok.ensures.cases.1, run.ensures.within)

pub returns-in-Err : goal.returns-in-Err
returns-in-Err c =
    let run = c.comment_length-length in
    (run.result, run_comment c.args.bytes.now run.result run.ensures.value, subst (IsValidUpTo _) (sym c.valid_up_to.ensures) c.in-Err.ensures.cases.1, run.ensures.within)
