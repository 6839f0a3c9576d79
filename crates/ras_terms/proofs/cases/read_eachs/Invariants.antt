use Rattle.std.proofs.Common.{◌≡◌, map, take}
use Rattle.ras_names.specs.Placed as placed
use Rattle.ras_names.specs.TermChecks as checks
use Rattle.ras_scope.specs.Placing.{placed_each}
use Rattle.ras_scope.specs.Seeing.{Sees, step_texts}
use Rattle.ras_terms.proofs.ReadEachs.{AreEachsRead}
use Rattle.ras_terms.proofs.cases.read_eachs.Given as goal

abbrev pub invariant-loop-each : goal.invariant-loop-each
invariant-loop-each l = record {
  rows : l.rows ≡ map (λ (e : placed.Each). e.row.text) (map placed_each (take l.each-index l.eachs));
  read : (seen : checks.Scope) → Sees l.scope seen → AreEachsRead seen (step_texts l.scope) l.eachs l.each-index l.bulk l.relations.items;
}
