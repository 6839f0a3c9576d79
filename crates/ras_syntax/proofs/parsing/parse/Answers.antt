use Rattle.std.proofs.Common.{◌-◌, length, sym}
use Rattle.ras_syntax.specs.Places.{of_file, words}
use Rattle.ras_syntax.proofs.Skips.{length-words}
use Rattle.ras_syntax.proofs.Sound.{file_sound}
use Rattle.ras_syntax.proofs.First.{first_fault, left_within, no_file, tree_is_file}
use Rattle.ras_syntax.proofs.parsing.parse.Goals as goal

pub invariant_of-result : goal.invariant_of-result
invariant_of-result c = tree_is_file c.args.tokens.now (of_file c.in-Ok.file) c.in-Ok.ensures.0 c.in-Ok.ensures.1

pub returns-in-Ok-clause-cases : goal.returns-in-Ok-clause-cases
returns-in-Ok-clause-cases c = (sym c.in-Ok.ensures.0, file_sound (words c.args.tokens.now) c.in-Ok.ensures.1)

pub overflow_sub-tokens : goal.overflow_sub-tokens
overflow_sub-tokens c = left_within c.args.tokens.now c.in-Err-Fault.left (rw c.in-Err-Fault.field-0-is at c.in-Err-Fault.ensures)

pub returns-in-Err-Fault-clause-cases : goal.returns-in-Err-Fault-clause-cases
returns-in-Err-Fault-clause-cases c = (
  length c.args.tokens.now - c.in-Err-Fault.left,
  rw (← length-words c.args.tokens.now) (first_fault (words c.args.tokens.now) c.in-Err-Fault.left (rw c.in-Err-Fault.field-0-is at c.in-Err-Fault.ensures)),
  c.place-at.ensures,
)

pub returns-in-Err-Fault-clause-only : goal.returns-in-Err-Fault-clause-only
returns-in-Err-Fault-clause-only c =
    λ file fault e. no_file (words c.args.tokens.now) c.in-Err-Fault.left (rw c.in-Err-Fault.field-0-is at c.in-Err-Fault.ensures) file
