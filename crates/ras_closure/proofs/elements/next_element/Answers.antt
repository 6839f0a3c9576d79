use Rattle.std.proofs.Common.{◌+◌, ◌<◌, ◌≤◌, refl, arith, ap}
use Rattle.ras_closure.specs.Classes.{class}
use Rattle.ras_closure.specs.Elements.{number}
use Rattle.ras_closure.proofs.Merges.{term_at}
use Rattle.ras_closure.proofs.Counting.{undef-numbered, known-numbered, new-numbered}
use Rattle.ras_closure.proofs.elements.next_element.Goals as goal

pub returns-then-class-sort_count : goal.returns-then-class-sort_count
returns-then-class-sort_count c =
    let low : class c.args.classes.now c.args.i < c.args.table.now.shape.schema.sorts = omega (arith, c.of-class.ensures, c.sort_count.ensures) in
    undef-numbered c.args.table.now c.known.ensures c.args.classes.now c.requires.sorted c.args.numbers.now c.args.counts.now c.args.i c.requires.numbered c.requires.within 0 low refl

pub returns-then-class-i : goal.returns-then-class-i
returns-then-class-i c =
    let high : c.args.table.now.shape.schema.sorts ≤ class c.args.classes.now c.args.i = omega (arith, c.of-class.ensures, c.sort_count.ensures) in
    let earlier : class c.args.classes.now c.args.i < c.args.i = omega (arith, c.of-class.ensures) in
    known-numbered c.args.table.now c.known.ensures c.args.classes.now c.requires.sorted c.args.numbers.now c.args.counts.now c.args.i c.requires.numbered c.requires.within
    (number c.args.numbers.now c.of-class.result) high earlier (ap (number c.args.numbers.now) c.of-class.ensures)

pub returns : goal.returns
returns c =
    let s = term_at c.args.table.now.terms c.args.i c.requires.within in
    let high : c.args.table.now.shape.schema.sorts ≤ class c.args.classes.now c.args.i = omega (arith, c.of-class.ensures, c.sort_count.ensures) in
    let first : c.args.i ≤ class c.args.classes.now c.args.i = omega (arith, c.of-class.ensures) in
    new-numbered c.args.table.now c.known.ensures c.args.classes.now c.requires.sorted c.args.numbers.now c.args.counts.now c.args.i c.requires.numbered c.requires.within
    (number c.args.counts.now c.sort-sort.result.n + 1) c.sort-sort.result s.0 s.1 (c.sort-sort.ensures.is_sort s.0 s.1) c.sort-sort.ensures.exists high first refl
