use Rattle.std.proofs.Common.{◌+◌, length, subst}
use Rattle.ras_logic.specs.Schemas.{SchemaParts}
use Rattle.ras_closure.specs.Building.{AreFixed}
use Rattle.ras_closure.proofs.Sides.{whole-table}
use Rattle.ras_closure.proofs.term_table.TermTable.new.Goals as goal

pub invariant_of-result : goal.invariant_of-result
invariant_of-result c =
    let part = c.in_ok-place_literals.ensures.part in
    let old : AreFixed c.args.shape.now.schema.sorts c.place_fixed.new.terms (c.args.shape.now.schema.sorts + length c.args.shape.now.schema.constants) =
    subst (λ (s : SchemaParts). AreFixed s.sorts c.place_fixed.new.terms (s.sorts + length s.constants)) c.schema.ensures c.in_ok-place_fixed.ensures.fixed in
    let fixed : AreFixed c.args.shape.now.schema.sorts c.place_literals.new.terms (c.args.shape.now.schema.sorts + length c.args.shape.now.schema.constants) =
    λ i lt. c.in_ok-place_literals.ensures.grows i _ (old i lt) in
    rw (c.in_ok-shape.ensures, c.in_ok-problem.ensures)
    (record {
      shape = c.known.ensures.shape;
      limits = c.known.ensures.schema_limits;
      fits = c.requires;
      terms = whole-table c.args.shape.now.schema c.args.problem.now.literals c.place_literals.new.terms c.place_literals.new.links part fixed c.in_ok-place_literals.ensures.sides;
      links = part.linked;
      few = part.few;
    })
