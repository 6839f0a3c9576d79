use Rattle.std.proofs.Common.{◌≡◌, length, refl}
use Rattle.std.specs.Prelude.{slice_get, Some}
use Rattle.std.proofs.lemmas.Option.{slice_get_read}
use Rattle.ras_closure.proofs.Sides.{literal-known, sides-more}
use Rattle.ras_closure.proofs.building.place_literals.Goals as goal

pub place_literal-requires-clause-known : goal.place_literal-requires-clause-known
place_literal-requires-clause-known c =
    let at : slice_get c.as_slice-literals.result.now c.loop-k.k ≡ Some c.index-literals-k.result =
    slice_get_read c.as_slice-literals.result.now (length c.as_slice-literals.result.now) c.loop-k.k c.index-literals-k.result refl c.loop-k-test.true c.index-literals-k.is in
    rw c.schema.ensures
    (literal-known c.args.shape.now c.args.problem.now.rows c.args.problem.now.params c.args.problem.now.literals c.requires.fit c.loop-k.k c.index-literals-k.result (rw (← c.as_slice-literals.ensures.items) at))

pub loop-k-preserved : goal.loop-k-preserved
loop-k-preserved c =
    let at : slice_get c.as_slice-literals.result.now c.loop-k.k ≡ Some c.index-literals-k.result =
    slice_get_read c.as_slice-literals.result.now (length c.as_slice-literals.result.now) c.loop-k.k c.index-literals-k.result refl c.loop-k-test.true c.index-literals-k.is in
    record {
      part = rw (← c.schema.ensures) c.in_ok-place_literal.ensures.part;
      grows = λ i t h. c.in_ok-place_literal.ensures.grows i t (c.loop-k.invariant.grows i t h);
      sides = sides-more c.loop-k.terms c.place_literal.new.terms c.args.problem.now.literals c.loop-k.k c.index-literals-k.result c.in_ok-place_literal.ensures.grows c.loop-k.invariant.sides
          (rw (← c.as_slice-literals.ensures.items) at) c.in_ok-place_literal.ensures.sides;
    }
