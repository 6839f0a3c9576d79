use Rattle.std.proofs.Common.{◌≡◌, ◌<◌, List, length, sym, ◌∙◌, ap, subst, arith}
use Rattle.std.specs.Prelude.{Option}
use Rattle.ras_logic.specs.declared.term.Term.{Term}
use Rattle.ras_split.specs.Standing.{AreGapsTo}
use Rattle.ras_split.proofs.Filling.{gap-within, gaps-fewer, gaps-filled}
use Rattle.ras_split.proofs.standing.standing_terms.Goals as goal

pub fill-requires : goal.fill-requires
fill-requires c g among =
    gap-within c.args.closure.now c.known.ensures.table c.known.ensures.closure c.loop-alloc.terms.items c.loop-alloc.invariant.are g (c.loop-alloc.invariant.gaps.each g among)

pub loop-alloc-smaller : goal.loop-alloc-smaller
loop-alloc-smaller c =
    gaps-fewer c.args.closure.now c.known.ensures.table c.known.ensures.closure c.loop-alloc.terms.items c.loop-alloc.invariant.are c.loop-alloc.found.items c.fill.new.terms.items
    c.loop-alloc.invariant.gaps.each c.fill.ensures (λ none. let some = c.has_gap.ensures.some c.loop-alloc-test.true in omega (arith, none, some))

pub loop-alloc-preserved : goal.loop-alloc-preserved
loop-alloc-preserved c = record {
  are = gaps-filled c.args.closure.now c.known.ensures.table c.known.ensures.closure c.loop-alloc.terms.items c.loop-alloc.invariant.are c.loop-alloc.found.items c.fill.new.terms.items
      c.loop-alloc.invariant.gaps.each c.fill.ensures;
  gaps = subst (λ (xs : List (Option Term)). AreGapsTo c.args.closure.now xs (length c.args.closure.now.table.terms) c.in_ok-found-2.found.items) c.deref-in-loop-alloc.ensures.value
      c.in_ok-found-2.ensures;
}
