use Rattle.std.proofs.Common.{ℕ, List, [], ◌∙◌, subst, arith, ap, length, get_or, ◌<◌}
use Rattle.std.proofs.lemmas.List.{get_or_default}
use Rattle.ras_logic.specs.Databases.{IsTable}
use Rattle.ras_database.proofs.Passing.{tables_more}
use Rattle.ras_database.proofs.checking.table_fault.Goals as goal

pub loop-n-preserved : goal.loop-n-preserved
loop-n-preserved c =
    let within : c.loop-n.n < length c.as_slice.result.now = omega (arith, ap (λ (xs : List (List ℕ)). length xs) c.as_slice.ensures.items) in
    let read = get_or_default c.as_slice.result.now c.loop-n.n c.index-as_slice-n.result [] within in
    tables_more c.args.schema.now c.args.raw.now c.loop-n.n c.function-decl.result c.loop-n.invariant c.function-decl.ensures
    (subst (λ (t : List ℕ). IsTable c.args.raw.now c.function-decl.result t)
    (c.as_slice-in-loop-n.ensures.items ∙ c.index-as_slice-n.is ∙ read ∙ ap (λ (xs : List (List ℕ)). get_or xs c.loop-n.n []) c.as_slice.ensures.items) c.in_default.ensures.none)

pub returns-clause-none : goal.returns-clause-none
returns-clause-none c = λ j f lt known. c.loop-n.invariant j f (omega (arith, c.function_count-count.ensures)) known
