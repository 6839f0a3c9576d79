use Rattle.std.proofs.Common.{◌≡◌, ◌<◌, ◌≤◌, List, ℕ, [], length, get_or, min, sym, ◌∙◌, ap, arith}
use Rattle.std.specs.Option.{option_copied}
use Rattle.ras_steps.proofs.NamedRows.{named_cells, updated_cells, no_updated_cells, cells_behind}
use Rattle.ras_steps.proofs.sight.SightValued.cell.Goals as goal

pub returns-then-row-named : goal.returns-then-row-named
returns-then-row-named c =
    let s = c.args.self.now in
    let lt : c.args.row < min (length s.relations.now) (length s.chosen.now) = omega (arith, c.min-named.ensures) in
    c.number_at.ensures ∙ ap (λ (xs : List ℕ). get_or xs c.args.column 0) (c.cells_of.ensures ∙ sym (named_cells s.state.now s.relations.now s.chosen.now s.params.now (option_copied s.row) c.args.row (record { n = 0 }) lt))

pub returns-in-Some : goal.returns-in-Some
returns-in-Some c =
    let s = c.args.self.now in
    let here : c.args.row ≡ min (length s.relations.now) (length s.chosen.now) = omega (arith, c.min-named.ensures) in
    c.number_at-in-Some.ensures ∙ ap (λ (xs : List ℕ). get_or xs c.args.column 0) (sym (updated_cells s.state.now s.relations.now s.chosen.now s.params.now (option_copied s.row) c.in-Some.cells.now c.args.row (ap option_copied c.in-Some.is) here))

pub returns-in-None : goal.returns-in-None
returns-in-None c =
    let s = c.args.self.now in
    let le : min (length s.relations.now) (length s.chosen.now) ≤ c.args.row = omega (arith, c.min-named.ensures) in
    ap (λ (xs : List ℕ). get_or xs c.args.column 0) (sym (no_updated_cells s.state.now s.relations.now s.chosen.now s.params.now (option_copied s.row) c.args.row (ap option_copied c.in-None.is) le))

pub returns-else-row-named-2 : goal.returns-else-row-named-2
returns-else-row-named-2 c =
    let s = c.args.self.now in
    let lt : min (length s.relations.now) (length s.chosen.now) < c.args.row = omega (arith, c.min-named.ensures) in
    ap (λ (xs : List ℕ). get_or xs c.args.column 0) (sym (cells_behind s.state.now s.relations.now s.chosen.now s.params.now (option_copied s.row) c.args.row lt))
