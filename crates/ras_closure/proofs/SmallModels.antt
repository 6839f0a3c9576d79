-- The model of a closure's classes satisfies what was asserted, and is small.
use Rattle.std.proofs.Common.{◌≡◌, ℕ, ◌+◌, ◌<◌, ◌≤◌, Bool, true, false, get_or, refl, sym, ◌∙◌, ap, arith, ◌⊎◌, inl, inr, ⊎_elim}
use Rattle.std.specs.Prelude.{Some, None, MatchBool}
use Rattle.std.proofs.lemmas.Option.{slice_get_within}
use Rattle.ras_logic.specs.declared.ids.SortId.{SortId}
use Rattle.ras_logic.specs.declared.raw_db.RawDb.{RawDb}
use Rattle.ras_logic.specs.declared.values.Values.{Values}
use Rattle.ras_logic.specs.declared.term.Term.{Term}
use Rattle.ras_logic.specs.Schemas.{HasSorts}
use Rattle.ras_logic.specs.Databases.{IsElement, size_of}
use Rattle.ras_logic.specs.Truth.{value}
use Rattle.ras_closure.specs.Numbered.{IsAt, IsSortOf, IsTable}
use Rattle.ras_closure.specs.Closures.{ClosureParts, IsClosure, IsFactOf}
use Rattle.ras_closure.specs.SmallModels.{IsModelOf, LacksImage, IsSmallFor}
use Rattle.ras_closure.specs.Models.{IsModelBy}
use Rattle.ras_closure.specs.Elements.{AreSorted, number, count}
use Rattle.ras_closure.specs.Spares.{IsLacking, IsNeeded, sized}
use Rattle.ras_logic.proofs.Elements.{from_known}
use Rattle.ras_logic.proofs.SameSorts.{together-sorted}
use Rattle.ras_closure.proofs.Gaps.{small-numbers, numbered-elements, beyond-none}
use Rattle.ras_closure.proofs.Assembly.{model-of, term-number}
use Rattle.ras_closure.proofs.Models.{AreNumbers}
use Rattle.ras_closure.proofs.Cases.{le_or, some_same, true_false}

module _ (c : ClosureParts) (table : IsTable c.table) (closure : IsClosure c) (none : c.clash ≡ None) where
  pub sorted-classes : AreSorted c.table c.classes
  sorted-classes = record {
    as_many = closure.partial.as_many;
    low = closure.partial.low;
    own = closure.partial.own;
    rigid = (closure.verdict.unbroken none).rigid;
    sorted = λ i j s u sort at_i at_j e is.
        let same = together-sorted c.table.shape c.table.problem.rows c.table.problem.params table.shape.schema c.table.problem.literals table.fits.literals (IsFactOf c) closure.facts_fit
        (closure.partial.sound i j s u at_i at_j e) in
        let one : sort ≡ same.sort = some_same (sym is ∙ same.left) in
        same.right ∙ ap (λ (q : SortId). Some q) (sym one);
  }

  module _ (d : RawDb) (v : Values) (by : IsModelBy c.table c.classes d v) where
    numbers : AreNumbers c.table.shape c.table.problem.rows c.table.problem.params c.table.terms c.classes (number by.numbers) (sized by.counts by.spares)
    numbers = small-numbers c.table table c.classes by.numbers by.counts by.lacking by.spares sorted-classes by.numbered by.all by.lack by.spared

    pub small-model : IsModelOf c d v
    small-model = model-of c table closure none (number by.numbers) (sized by.counts by.spares) numbers d v by.db by.values

    value-is : (i : ℕ) (s : Term) → IsAt c.table.terms i s → value d v s ≡ number by.numbers i
    value-is = term-number c table closure none (number by.numbers) (sized by.counts by.spares) numbers d v by.db by.values

    is_lacking : (b : Bool) (P : Type 0) → MatchBool b P (P → ⊥) → b ≡ true → P
    is_lacking true P h e = h
    is_lacking false P h e = absurd (true_false (sym e))

    sorts_of : {sort : ℕ} (need : IsNeeded c.table.shape.schema.functions by.lacking by.spares sort) → HasSorts c.table.shape.schema.sorts need.decl
    sorts_of need = from_known (HasSorts c.table.shape.schema.sorts) c.table.shape.schema.functions table.shape.schema.functions need.f need.decl need.known

    lacks : (sort : SortId) → IsNeeded c.table.shape.schema.functions by.lacking by.spares sort.n → LacksImage c d v sort
    lacks sort need = go need.needs.reason
      where
        go : (get_or by.lacking need.f false ≡ true) ⊎ (get_or by.spares need.decl.source.n false ≡ true) → LacksImage c d v sort
        go (inl e) =
            let lacking = is_lacking (get_or by.lacking need.f false) (IsLacking c.table by.numbers by.counts (record { n = need.f }) need.decl)
            (by.lack.each (record { n = need.f }) need.decl (rw by.all (slice_get_within c.table.shape.schema.functions need.f need.decl need.known)) need.known) e in
            let le = lacking.within in
            record {
              f = record { n = need.f };
              decl = need.decl;
              known = need.known;
              total = need.needs.total;
              target = ap (λ (m : ℕ). record { n = m }) need.target;
              x = lacking.x;
              above = lacking.above;
              element = let e = by.db.sizes need.decl.source (sorts_of need).0 in omega (arith, e, le);
              none = λ i k t at_i at_k is. lacking.none i k t at_i at_k (sym (value-is i t at_i) ∙ is);
            }
        go (inr e) =
            record {
              f = record { n = need.f };
              decl = need.decl;
              known = need.known;
              total = need.needs.total;
              target = ap (λ (m : ℕ). record { n = m }) need.target;
              x = count by.counts need.decl.source + 1;
              above = omega arith;
              element = let s = by.db.sizes need.decl.source (sorts_of need).0 in rw (s, e) (omega arith);
              none = λ i k t at_i at_k is.
                  beyond-none c.table table by.numbers by.counts (numbered-elements c.table c.classes by.numbers by.counts table by.numbered) (record { n = need.f }) need.decl need.known
                  (count by.counts need.decl.source + 1) (omega arith) i k t at_i at_k (sym (value-is i t at_i) ∙ is);
            }

    pub small-for : IsSmallFor c d v
    small-for = record {
      each = λ sort x lt above element.
          let is_size = by.db.sizes sort lt in
          ⊎_elim
          (λ (h : x ≤ count by.counts sort).
          let named = by.numbered.named sort x above h in
          inl (named.i, named.s, named.here, named.is_sort, value-is named.i named.s named.here ∙ named.element))
          (λ (h : count by.counts sort < x). spare sort x element is_size h (get_or by.spares sort.n false) refl) (le_or x (count by.counts sort));
    }
      where
        spare : (sort : SortId) (x : ℕ) → IsElement d sort x → size_of d sort ≡ sized by.counts by.spares sort → count by.counts sort < x → (b : Bool) → get_or by.spares sort.n false ≡ b
            → ((i : ℕ) × (t : Term) × IsAt c.table.terms i t × IsSortOf c.table t sort × (value d v t ≡ x)) ⊎ ((x ≡ size_of d sort) × LacksImage c d v sort)
        spare sort x element is_size beyond true e =
            let size = rw e at is_size in
            inr (omega (arith, element, size, beyond), lacks sort (by.spared.needed sort.n e))
        spare sort x element is_size beyond false e =
            let size = rw e at is_size in
            absurd (omega (arith, element, size, beyond))
