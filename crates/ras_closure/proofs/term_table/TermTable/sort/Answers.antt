use Rattle.std.proofs.Common.{sym, ◌∙◌}
use Rattle.ras_closure.proofs.Merges.{not_unsorted, sort-exists, at-same}
use Rattle.ras_closure.proofs.term_table.TermTable.sort.Goals as goal

pub unreachable-requires : goal.unreachable-requires
unreachable-requires c =
    not_unsorted c.args.self.now c.known.ensures c.args.term c.term.result.now c.term.ensures
    (rw (← c.shape.ensures, ← c.rows.ensures, ← c.params.ensures) (sym c.in-None.is ∙ c.sort_of-found.ensures))

pub returns : goal.returns
returns c =
    let e = sym c.sort_of-found.ensures ∙ c.in-Some.is in
    let is = rw (c.shape.ensures, c.rows.ensures, c.params.ensures) at e in
    record {
      is_sort = λ t at. rw (at-same c.args.self.now.terms c.args.term t c.term.result.now at c.term.ensures) is;
      exists = sort-exists c.args.self.now c.known.ensures c.term.result.now c.in-Some.sort is;
    }
