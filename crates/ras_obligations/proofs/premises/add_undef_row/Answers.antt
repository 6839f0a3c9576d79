use Rattle.std.proofs.Common.{◌≡◌, ℕ, ◌<◌, ◌∷◌, [], ◌++◌, List, map, take, length, get_or, sym, ◌∙◌, ap, arith}
use Rattle.std.specs.List.{enumerate_from}
use Rattle.std.proofs.lemmas.Option.{get_or_from_slice_get}
use Rattle.ras_logic.specs.declared.ids.SortId.{SortId}
use Rattle.ras_logic.specs.declared.literal.Literal.{Literal}
use Rattle.ras_system.specs.Obligations.{undef_literal, undef_row}
use Rattle.ras_obligations.proofs.Numbered.{items-more, numbered-done}
use Rattle.ras_obligations.proofs.premises.add_undef_row.Goals as goal

pub loop-column-preserved : goal.loop-column-preserved
loop-column-preserved c =
    let of : ℕ × SortId → Literal = λ p. undef_literal c.args.row p.0 p.1 in
    let columns : List SortId = c.columns-columns.result.now in
    let lt : c.loop-column.column < length columns = c.loop-column-test.true in
    c.in_ok-push.ensures.ok
    ∙ ap (λ (ls : List Literal). ls ++ c.undef_literal.result ∷ []) c.loop-column.invariant
    ∙ ap (λ (l : Literal). (c.args.literals.now ++ map of (enumerate_from 0 (take c.loop-column.column columns))) ++ l ∷ []) c.undef_literal.ensures
    ∙ items-more of columns c.loop-column.column _ c.args.literals.now lt

pub returns : goal.returns
returns c =
    let of : ℕ × SortId → Literal = λ p. undef_literal c.args.row p.0 p.1 in
    let columns : c.columns-columns.result.now ≡ get_or c.args.system.now.shape.relations c.args.relation.n [] =
    sym (get_or_from_slice_get c.shape-shape.result.now.relations c.args.relation.n c.columns-columns.result.now [] c.columns-columns.ensures)
    ∙ ap (λ s. get_or s.relations c.args.relation.n []) c.shape-shape.ensures in
    c.loop-column.invariant
    ∙ ap (λ (ls : List Literal). c.args.literals.now ++ ls)
    (numbered-done (λ xs. map of (enumerate_from 0 xs)) c.columns-columns.result.now c.loop-column.column c.loop-column-test.false
    ∙ ap (λ (xs : List SortId). map of (enumerate_from 0 xs)) columns)
