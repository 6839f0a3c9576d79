use Rattle.std.proofs.Common.{◌≡◌, ℕ, ◌<◌, List, length, get_or, refl, sym, ◌∙◌, ap, subst, arith}
use Rattle.std.proofs.lemmas.Option.{slice_get_within}
use Rattle.ras_logic.specs.declared.raw_db.RawDb.{RawDb}
use Rattle.ras_closure.specs.Elements.{number}
use Rattle.ras_closure.specs.Closures.{ClosureParts}
use Rattle.ras_closure.specs.Numbered.{TableParts}
use Rattle.ras_enlarge.specs.Numbers.{AreTablesOver, size_in}
use Rattle.ras_enlarge.proofs.enlarging.larger.Goals as goal

pub returns : goal.returns
returns c =
    let tables : AreTablesOver c.args.case.now.closure.table c.args.db.now (number c.args.numbers.now) (size_in c.args.sizes.items) (length c.args.case.now.closure.table.shape.schema.functions)
    c.in_ok-tables.tables =
    subst (λ (xs : List ℕ). AreTablesOver c.args.case.now.closure.table c.args.db.now (number c.args.numbers.now) (size_in xs) (length c.args.case.now.closure.table.shape.schema.functions)
    c.in_ok-tables.tables) c.deref.ensures.value
    (subst (λ (t : TableParts). AreTablesOver t c.args.db.now (number c.args.numbers.now) (size_in c.deref.result.now) (length t.shape.schema.functions) c.in_ok-tables.tables)
    (c.table.ensures ∙ ap (λ (x : ClosureParts). x.table) c.closure.ensures) c.in_ok-tables.ensures) in
    record {
      as_many_sizes = ap (λ (xs : List ℕ). length xs) c.from_vec.ensures ∙ c.requires.sorts;
      sizes = λ s lt. ap (λ (xs : List ℕ). get_or xs s.n 0) c.from_vec.ensures;
      as_many_tables = tables.long;
      each_table = λ f decl known. tables.each f decl (slice_get_within c.args.case.now.closure.table.shape.schema.functions f.n decl known) known;
      constants = c.in_ok-constants.ensures ∙ ap (λ (e : RawDb). e.constants) c.raw.ensures;
    }
