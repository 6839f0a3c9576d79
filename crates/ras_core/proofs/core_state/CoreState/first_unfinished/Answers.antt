use Rattle.std.proofs.Common.{ap, ◌∙◌, arith}
use Rattle.ras_core.specs.declared.sought.Sought.TheVariants as sought
use Rattle.ras_core.specs.Bookkeeping.{SearchParts}
use Rattle.ras_core.proofs.Booking.{first_entry, no_entry}
use Rattle.ras_core.proofs.core_state.CoreState.first_unfinished.Goals.{then-number-len, else-number-len}
use Rattle.ras_core.proofs.core_state.CoreState.first_unfinished.Goals as goal

pub returns-clause-some : goal.returns-clause-some
returns-clause-some c = elim c.if-number-len.branch [
  | then-number-len w ↦ rw w.result-is
      (first_entry c.args.self.now.state c.as_slice.result.now c.first_from-number.result
      (c.as_slice.ensures.value ∙ ap (λ (p : SearchParts). p.state.entries) c.self.view_is) sought.Unfinished c.first_from-number.ensures
      (let lt = w.if-number-len in let len = c.len.ensures in let items = c.as_slice.ensures.len in omega (arith, lt, len, items)))
  | else-number-len w ↦ rw w.result-is tt
]

pub returns-clause-none : goal.returns-clause-none
returns-clause-none c = elim c.if-number-len.branch [
  | then-number-len w ↦ rw w.result-is tt
  | else-number-len w ↦ rw w.result-is
      (no_entry c.args.self.now.state c.as_slice.result.now c.first_from-number.result
      (c.as_slice.ensures.value ∙ ap (λ (p : SearchParts). p.state.entries) c.self.view_is) sought.Unfinished c.first_from-number.ensures
      (let ge = w.if-number-len in let len = c.len.ensures in let items = c.as_slice.ensures.len in omega (arith, ge, len, items)))
]
