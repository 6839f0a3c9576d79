use Rattle.std.proofs.Common.{take, refl, sym, ◌∙◌, arith}
use Rattle.ras_lexer.specs.declared.token.Word.TheVariants as word
use Rattle.ras_lexer.proofs.Fronts.{run_word, named_word, long_word, fixed_short}
use Rattle.ras_lexer.proofs.scanning.word.Goals as goal

pub returns-in-Some-of : goal.returns-in-Some-of
returns-in-Some-of c =
    let run = c.name_length-length in
    (run_word c.args.bytes.now (word.Fixed c.in-Some-of.reserved) run.result run.ensures.value (omega arith) tt c.in-Some-of.ensures, fixed_short c.in-Some-of.reserved)

pub returns-in-Some-new : goal.returns-in-Some-new
returns-in-Some-new c =
    let run = c.name_length-length in
    let begins = sym c.begins_name.ensures ∙ c.if-not-begins_name.false in
    let same = c.in-Some-new.ensures.1 in
    (named_word c.args.bytes.now c.in-Some-new.text run.result run.ensures.value (omega arith) begins same c.in-None-of.ensures, omega arith)

pub returns-in-None-new : goal.returns-in-None-new
returns-in-None-new c =
    let run = c.name_length-length in
    let begins = sym c.begins_name.ensures ∙ c.if-not-begins_name.false in
    let name = take run.result c.args.bytes.now in
    (name, named_word c.args.bytes.now name run.result run.ensures.value (omega arith) begins refl c.in-None-of.ensures, long_word c.args.bytes.now run.result run.ensures.value (omega arith) c.in-None-new.ensures)
