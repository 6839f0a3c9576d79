use Rattle.std.proofs.Common.{◌≡◌, map, take}
use Rattle.ras_syntax.specs.declared.tree.Call.{Call}
use Rattle.ras_names.specs.Placed as placed
use Rattle.ras_names.specs.Checks.{used_check}
use Rattle.ras_scope.specs.Agreeing.{Agrees}
use Rattle.ras_terms.specs.Calling.{called_value}
use Rattle.ras_scope.specs.Placing.{placed_call}
use Rattle.ras_terms.proofs.InOrder.{Passed}
use Rattle.ras_terms.proofs.terms.read_calls.Given as goal

abbrev pub invariant-loop-call : goal.invariant-loop-call
invariant-loop-call l = record {
  passed : Passed (λ (call : Call). used_check l.declared.functions.names (placed_call call)) l.calls l.call-index;
  read : (file : placed.File) → Agrees file l.declared → l.called.items ≡ map (called_value file) (map placed_call (take l.call-index l.calls));
}
