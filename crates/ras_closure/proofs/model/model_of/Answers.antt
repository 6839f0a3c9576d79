use Rattle.std.proofs.Common.{◌≡◌, ◌+◌, ℕ, Bool, List, get_or, subst}
use Rattle.ras_closure.specs.Models.{AreTables}
use Rattle.ras_closure.specs.Values.{AreModelValues}
use Rattle.ras_closure.specs.Elements.{number}
use Rattle.ras_closure.specs.Spares.{sized, AreSpares}
use Rattle.ras_closure.proofs.Gaps.{numbered-elements}
use Rattle.ras_closure.proofs.model.model_of.Goals as goal

pub lacking_functions-requires : goal.lacking_functions-requires
lacking_functions-requires c =
    numbered-elements c.args.table.now c.args.classes.now c.in_ok-elements.elements.numbers.items c.in_ok-elements.elements.counts.items c.known.ensures c.in_ok-elements.ensures

pub returns : goal.returns
returns c =
    let t = c.args.table.now in
    let numbers = c.in_ok-elements.elements.numbers.items in
    let counts = c.in_ok-elements.elements.counts.items in
    record {
      numbers = numbers;
      counts = counts;
      lacking = c.in_ok-lacking.lacking.items;
      spares = c.in_ok-spares.spares.items;
      numbered = c.in_ok-elements.ensures;
      all = c.in_ok-lacking.ensures.all;
      lack = c.in_ok-lacking.ensures.lacking;
      spared = subst (λ (xs : List Bool). AreSpares t xs c.in_ok-spares.spares.items) c.deref.ensures.value c.in_ok-spares.ensures;
      db = record {
        as_many_sizes = c.in_ok-sizes.ensures.all;
        sizes = λ s lt. subst (λ (xs : List Bool). get_or c.in_ok-sizes.sizes s.n 0 ≡ sized counts xs s) c.deref-2.ensures.value (c.in_ok-sizes.ensures.sizes s (rw c.in_ok-sizes.ensures.all lt));
        as_many_tables = c.in_ok-tables.ensures.all;
        tables = subst (λ (xs : List Bool). AreTables t.shape.schema t.terms (number numbers) (sized counts xs) c.in_ok-tables.tables) c.deref-3.ensures.value c.in_ok-tables.ensures.tables;
        as_many_constants = c.in_ok-constants.ensures.all;
        constants = λ k lt. subst (λ (ns : List ℕ). get_or c.in_ok-constants.constants k 0 ≡ number ns (t.shape.schema.sorts + k)) c.deref-4.ensures.value
            (c.in_ok-constants.ensures.constants k (rw c.in_ok-constants.ensures.all lt));
      };
      values = subst (λ (ns : List ℕ). AreModelValues t.shape t.problem.rows t.problem.params t.terms (number ns) c.in_ok-values.values) c.deref-5.ensures.value c.in_ok-values.ensures;
    }
