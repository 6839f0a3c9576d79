use Rattle.std.proofs.Common.{◌≡◌, ◌<◌, ◌≤◌, List, get_or, sym, ◌∙◌, ap, subst, arith}
use Rattle.std.specs.Prelude.{Option, None, Some}
use Rattle.ras_logic.specs.declared.term.Term.{Term}
use Rattle.ras_closure.specs.Closures.{ClosureParts}
use Rattle.ras_closure.specs.Numbered.{TableParts, IsAt, IsSortOf}
use Rattle.ras_closure.specs.Classes.{class}
use Rattle.ras_closure.proofs.Merges.{term_at}
use Rattle.ras_split.proofs.Owning.{index-standing}
use Rattle.ras_enlarge.proofs.NextNumbers.{numbered-old, numbered-class, numbered-new}
use Rattle.ras_enlarge.proofs.Extended.{ok-if}
use Rattle.ras_enlarge.proofs.numbering.number_of.Goals as goal

pub returns-in-Some : goal.returns-in-Some
returns-in-Some c =
    let at_class : c.class_of-class.result ≡ class c.args.case.now.closure.classes c.args.i =
    c.class_of-class.ensures.class ∙ ap (λ (x : ClosureParts). class x.classes c.args.i) c.closure-closure.ensures in
    let read : c.index-standing-class.result ≡ get_or c.args.case.now.terms c.class_of-class.result c.index-standing-class.result =
    subst (λ (xs : List (Option Term)). c.index-standing-class.result ≡ get_or xs c.class_of-class.result c.index-standing-class.result) c.standing.ensures c.index-standing-class.is in
    let is = index-standing c.args.case.now.closure c.known.ensures.closure c.args.case.now.terms c.args.i c.class_of-class.result c.index-standing-class.result c.known.ensures.standing.are.as_many
    c.requires.within at_class read in
    rw c.value.ensures (numbered-old c.args.case.now c.known.ensures.table c.known.ensures.closure c.args.db.now c.args.values.now c.args.i c.args.numbers.now c.args.sizes.now c.requires.so_far c.requires.within c.in-Some.by (sym is ∙ c.in-Some.is))

pub returns-then-class-i : goal.returns-then-class-i
returns-then-class-i c =
    let at_class : c.class_of-class.result ≡ class c.args.case.now.closure.classes c.args.i =
    c.class_of-class.ensures.class ∙ ap (λ (x : ClosureParts). class x.classes c.args.i) c.closure-closure.ensures in
    let read : c.index-standing-class.result ≡ get_or c.args.case.now.terms c.class_of-class.result c.index-standing-class.result =
    subst (λ (xs : List (Option Term)). c.index-standing-class.result ≡ get_or xs c.class_of-class.result c.index-standing-class.result) c.standing.ensures c.index-standing-class.is in
    let is = index-standing c.args.case.now.closure c.known.ensures.closure c.args.case.now.terms c.args.i c.class_of-class.result c.index-standing-class.result c.known.ensures.standing.are.as_many
    c.requires.within at_class read in
    rw at_class (numbered-class c.args.case.now c.known.ensures.table c.known.ensures.closure c.args.db.now c.args.values.now c.args.i c.args.numbers.now c.args.sizes.now c.requires.so_far c.requires.within (sym is ∙ c.in_default.is) (let lt = c.if-class-i.true in omega arith))

pub returns : goal.returns
returns c =
    let at_class : c.class_of-class.result ≡ class c.args.case.now.closure.classes c.args.i =
    c.class_of-class.ensures.class ∙ ap (λ (x : ClosureParts). class x.classes c.args.i) c.closure-closure.ensures in
    let read : c.index-standing-class.result ≡ get_or c.args.case.now.terms c.class_of-class.result c.index-standing-class.result =
    subst (λ (xs : List (Option Term)). c.index-standing-class.result ≡ get_or xs c.class_of-class.result c.index-standing-class.result) c.standing.ensures c.index-standing-class.is in
    let is = index-standing c.args.case.now.closure c.known.ensures.closure c.args.case.now.terms c.args.i c.class_of-class.result c.index-standing-class.result c.known.ensures.standing.are.as_many
    c.requires.within at_class read in
    let whole = c.table.ensures ∙ ap (λ (x : ClosureParts). x.table) c.closure-closure.ensures in
    let sorted = subst (λ (b : TableParts). (t : Term) → IsAt b.terms c.args.i t → IsSortOf b t c.sort.result) whole c.sort.ensures.is_sort in
    let exists = subst (λ (b : TableParts). c.sort.result.n < b.shape.schema.sorts) whole c.sort.ensures.exists in
    let t = term_at c.args.case.now.closure.table.terms c.args.i c.requires.within in
    ok-if c.next_element.result c.next_element.ensures
    (λ x h. numbered-new c.args.case.now c.known.ensures.table c.known.ensures.closure c.args.db.now c.args.values.now c.args.i c.args.numbers.now c.args.sizes.now c.requires.so_far c.requires.within (sym is ∙ c.in_default.is) (let ge = c.if-class-i.false in omega arith) t.0 c.sort.result t.1 (sorted t.0 t.1) exists x
    c.next_element.new.sizes h.0 h.1)
