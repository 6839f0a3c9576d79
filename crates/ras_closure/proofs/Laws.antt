-- What a closure's classes and its clash mean.
use Rattle.std.proofs.Common.{◌≡◌, ℕ, ◌<◌, Bool}
use Rattle.std.specs.Prelude.{slice_get, Some, None, ◌↔◌}
use Rattle.std.proofs.lemmas.Option.{slice_get_within}
use Rattle.ras_logic.specs.declared.ids.FunId.{FunId}
use Rattle.ras_logic.specs.declared.function.FunDecl.{FunDecl}
use Rattle.ras_logic.specs.declared.term.Term.{Term}
use Rattle.ras_logic.specs.declared.literal.Literal.TheVariants.{Equal}
use Rattle.ras_logic.specs.Schemas.{HasSorts}
use Rattle.ras_logic.specs.Clashes.{IsTerm}
use Rattle.ras_closure.specs.declared.clash.Clash.{Clash}
use Rattle.ras_closure.specs.Numbered.{IsAt, IsTable}
use Rattle.ras_closure.specs.Classes.{class}
use Rattle.ras_closure.specs.Closures.{ClosureParts, IsClosure, IsFactOf, AreTogetherIn, FactsClashIn, HasNoModel, NamesConflict}
use Rattle.ras_logic.proofs.Elements.{from_known}
use Rattle.ras_logic.proofs.Soundness.{clash-none}
use Rattle.ras_closure.proofs.Completeness.{together-class}
use Rattle.ras_closure.proofs.Merges.{term_at, clashing-conflict, conflict-clash}
use Rattle.ras_closure.proofs.Models.{AreConsistent}

module _ (c : ClosureParts) (table : IsTable c.table) (closure : IsClosure c) where
  pub facts_known : (s t : Term) (same : Bool) → IsFactOf c (Equal s t same) → IsTerm c.table.shape.schema c.table.problem.literals s × IsTerm c.table.shape.schema c.table.problem.literals t
  facts_known s t same h = (table.terms.known h.0 s h.2, table.terms.known h.1 t h.3)

  sorted : (f : FunId) (d : FunDecl) → slice_get c.table.shape.schema.functions f.n ≡ Some d → (d.source.n < c.table.shape.schema.sorts) × (d.target.n < c.table.shape.schema.sorts)
  sorted f d known = from_known (HasSorts c.table.shape.schema.sorts) c.table.shape.schema.functions table.shape.schema.functions f.n d known

  pub classes-together : (i j : ℕ) (s t : Term) → IsAt c.table.terms i s → IsAt c.table.terms j t → (class c.classes i ≡ class c.classes j) ↔ AreTogetherIn c s t
  classes-together i j s t at_i at_j = (
    λ e. closure.partial.sound i j s t at_i at_j e,
    λ r. together-class c.table.shape.schema c.table.problem.literals (IsFactOf c) c.table.terms c.classes sorted facts_known table.terms closure.closed s t i j at_i at_j r,
  )

  pub clash-conflict : (q : Clash) → c.clash ≡ Some q → NamesConflict c q
  clash-conflict q some =
      let clashing = closure.verdict.clashing q some in
      let s = term_at c.table.terms q.left.n clashing.left in
      let t = term_at c.table.terms q.right.n clashing.right in
      record {
        s = s.0;
        t = t.0;
        left = s.1;
        right = t.1;
        together = clashing.together s.0 t.0 s.1 t.1;
        conflict = clashing-conflict c.table table c.marks closure.facts_fit q.left.n q.right.n s.0 t.0 clashing s.1 t.1;
      }

  pub clash-facts : (q : Clash) → c.clash ≡ Some q → FactsClashIn c
  clash-facts q some =
      let named = clash-conflict q some in
      conflict-clash c.table.shape.schema c.table.problem.literals (IsFactOf c) named.together named.conflict

  -- facts that clash hold nowhere
  pub facts-no_model : FactsClashIn c → HasNoModel c
  facts-no_model clash d v db values hold =
      clash-none c.table.shape c.table.problem.rows c.table.problem.params table.shape.schema c.table.problem.literals table.fits.literals (IsFactOf c) closure.facts_fit d db v values hold clash

  pub consistent : c.clash ≡ None → AreConsistent c.table.shape.schema (IsFactOf c) c.table.terms c.classes
  consistent none = let unbroken = closure.verdict.unbroken none in record {
    rigid = unbroken.rigid;
    apart = λ i j s t at_i at_j fact e.
        let one = table.terms.different fact.0 i s fact.2 at_i in
        let two = table.terms.different fact.1 j t fact.3 at_j in
        unbroken.apart fact.0 fact.1 (rw closure.width (slice_get_within c.table.terms fact.0 s fact.2)) (rw closure.width (slice_get_within c.table.terms fact.1 t fact.3)) fact.4 (rw (one, two) e);
  }
