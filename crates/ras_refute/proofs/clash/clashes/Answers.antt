use Rattle.std.proofs.Common.{ℕ, List, ◌⊎◌}
use Rattle.std.specs.Prelude.{IsTrue, ◌↔◌}
use Rattle.std.proofs.lemmas.Result.{IfOk-weaker}
use Rattle.ras_logic.specs.Clashes.{FactsClash}
use Rattle.ras_refute.specs.Classes.{AreLeast}
use Rattle.ras_refute.specs.Clashing.{HasViolated, HasDistinct}
use Rattle.ras_refute.proofs.Clashing.{found-clash, clash-found, least-bounded}
use Rattle.ras_refute.proofs.clash.clashes.Goals as goal

pub has_clash-requires-clause-bounded : goal.has_clash-requires-clause-bounded
has_clash-requires-clause-bounded c =
    rw c.deref.ensures.value
    (least-bounded c.args.schema.now c.args.facts.now c.in_ok-table.table c.in_ok-classes.classes.items c.in_ok-classes.ensures)

pub returns : goal.returns
returns c =
    let classes : List ℕ = c.in_ok-classes.classes.items in
    let least : AreLeast c.args.schema.now c.args.facts.now c.in_ok-table.table classes = c.in_ok-classes.ensures in
    IfOk-weaker c.has_clash.result
    (λ b. IsTrue b ↔ (HasViolated c.args.facts.now c.in_ok-table.table.sides classes ⊎ HasDistinct c.in_ok-table.table.entries classes))
    (λ b. IsTrue b ↔ FactsClash c.args.schema.now c.args.facts.now)
    (λ b told. (
      λ h. found-clash c.args.schema.now c.known.ensures.schema c.args.facts.now c.in_ok-table.table classes least (told.0 h),
      λ h. told.1 (clash-found c.args.schema.now c.known.ensures.schema c.args.facts.now c.in_ok-table.table classes least h),
    ))
    (rw c.deref.ensures.value at c.has_clash.ensures)
