use Rattle.std.proofs.Common.{◌≡◌, ℕ, ◌<◌, ◌∷◌, [], ◌++◌, List, map, take, length, ◌∙◌, ap, arith}
use Rattle.std.specs.Prelude.{Option, None}
use Rattle.std.specs.List.{enumerate_from}
use Rattle.ras_logic.specs.declared.ids.ConstId.{ConstId}
use Rattle.ras_logic.specs.declared.literal.Literal.{Literal}
use Rattle.ras_system.specs.Obligations.{initial_literal, initial_vars}
use Rattle.ras_obligations.proofs.Numbered.{items-more, numbered-done}
use Rattle.ras_obligations.proofs.premises.add_initial_values.Goals as goal

pub loop-n-preserved : goal.loop-n-preserved
loop-n-preserved c =
    let of : ℕ × Option ConstId → Literal = λ p. initial_literal c.args.system.now p.0 p.1 in
    let lt : c.loop-n.n < length c.args.system.now.initial =
    omega (arith, c.known.ensures.system.initial_for_each, c.loop-n-test.true, c.var_count-n-end.ensures, ap (λ s. length s.vars) c.shape.ensures) in
    c.in_ok-push.ensures.ok
    ∙ ap (λ (ls : List Literal). ls ++ c.initial_literal.result ∷ []) c.loop-n.invariant
    ∙ ap (λ (l : Literal). (c.args.literals.now ++ map of (enumerate_from 0 (take c.loop-n.n c.args.system.now.initial))) ++ l ∷ []) c.initial_literal.ensures
    ∙ items-more of c.args.system.now.initial c.loop-n.n None c.args.literals.now lt

pub returns : goal.returns
returns c =
    let of : ℕ × Option ConstId → Literal = λ p. initial_literal c.args.system.now p.0 p.1 in
    c.loop-n.invariant
    ∙ ap (λ (ls : List Literal). c.args.literals.now ++ ls)
    (numbered-done (λ xs. map of (enumerate_from 0 xs)) c.args.system.now.initial c.loop-n.n
    (omega (arith, c.known.ensures.system.initial_for_each, c.loop-n-test.false, c.var_count-n-end.ensures, ap (λ s. length s.vars) c.shape.ensures)))
