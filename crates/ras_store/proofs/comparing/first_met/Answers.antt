use Rattle.std.proofs.Common.{◌≤◌, length, refl, ◌∙◌}
use Rattle.ras_logic.specs.declared.problem.Problem.{Problem}
use Rattle.ras_core.proofs.Booking.{false_is_not}
use Rattle.ras_core.proofs.Lists.{all-at}
use Rattle.ras_store.specs.Comparing.{cubes_in}
use Rattle.ras_store.proofs.Compared.{cube_at, met_here, met_none}
use Rattle.ras_store.proofs.comparing.first_met.Goals as goal

pub meets-requires : goal.meets-requires
meets-requires c = record {
  room =
      rw (c.get-cube.ensures ∙ c.cube.ensures, c.loop-number.invariant.0)
      (all-at (λ (cube : Problem). length cube.rows ≤ c.args.widest) (cubes_in c.args.entries.now) c.requires.rows c.loop-number.number c.index-entries-number.result.cube
      (cube_at c.args.witness.now.db c.args.witness.now.state c.args.entries.now c.loop-number.number c.index-entries-number.result c.loop-number-test.true c.index-entries-number.is));
}

pub returns-then-meets-clause-some : goal.returns-then-meets-clause-some
returns-then-meets-clause-some c =
    met_here c.args.witness.now.db c.args.witness.now.state c.args.entries.now c.loop-number.number c.index-entries-number.result c.loop-number-test.true c.index-entries-number.is
    c.get-cube.result.now (c.get-cube.ensures ∙ c.cube.ensures) c.loop-number.invariant.1 (c.if-meets.ensures.met.0 refl)

pub loop-number-preserved : goal.loop-number-preserved
loop-number-preserved c = (
  c.meets.ensures.keeps_room ∙ c.loop-number.invariant.0,
  met_none c.args.witness.now.db c.args.witness.now.state c.args.entries.now c.loop-number.number c.index-entries-number.result c.loop-number-test.true c.index-entries-number.is
      c.get-cube.result.now (c.get-cube.ensures ∙ c.cube.ensures) c.loop-number.invariant.1 (λ m. false_is_not (c.if-meets.ensures.met.1 m)),
)
