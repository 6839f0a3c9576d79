use Rattle.std.proofs.Common.{◌≡◌, ◌++◌, List, length, ap, arith, ◌-◌, sym, subst, ◌∙◌}
use Rattle.ras_lexer.specs.declared.token.Token.{Token}
use Rattle.ras_lexer.specs.Fronts.{front_tokens}
use Rattle.ras_lexer.proofs.Reaching.{Reaches, starts, next, space_kept, word_pushed, faulted, faulty_within, reached_within}
use Rattle.ras_lexer.proofs.Unique.{apart}
use Rattle.ras_lexer.proofs.lexing.tokens.Goals as goal
use Rattle.ras_lexer.proofs.lexing.tokens.Goals.{in-Space, in-Word+in_ok-push-in-Word}

pub loop-rest-init : goal.loop-rest-init
loop-rest-init c = subst (λ (ts : List Token). Reaches c.args.bytes.now ts c.args.bytes.now) (sym c.new-tokens.ensures.items) (starts c.args.bytes.now)

pub overflow_sub-at : goal.overflow_sub-at
overflow_sub-at c = reached_within c.args.bytes.now _ c.loop-rest.rest.now c.loop-rest.invariant

pub overflow_cast-result : goal.overflow_cast-result
overflow_cast-result c = omega (arith, reached_within c.args.bytes.now _ c.loop-rest.rest.now c.loop-rest.invariant, faulty_within c.in-Err.wrong.kind c.loop-rest.rest.now c.in-Err.wrong.before c.in-Err.ensures)

pub returns-in-Err-clause-cases : goal.returns-in-Err-clause-cases
returns-in-Err-clause-cases c = faulted c.args.bytes.now _ c.loop-rest.rest.now c.in-Err.wrong.kind c.in-Err.wrong.before c.loop-rest.invariant c.in-Err.ensures

pub loop-rest-preserved : goal.loop-rest-preserved
loop-rest-preserved c =
    let read : c.match-found.tokens.items ≡ c.loop-rest.tokens.items ++ front_tokens (length c.args.bytes.now - length c.loop-rest.rest.now) c.in-Ok.found =
    elim c.match-found.branch [ in-Space w ↦ space_kept _ c.in-Ok.found w.in-Space.field-0 c.loop-rest.tokens.items c.match-found.tokens.items w.in-Space.is (ap (λ v. v.items) w.tokens-is) | in-Word+in_ok-push-in-Word w ↦ word_pushed _ c.in-Ok.found w.in-Word.word c.loop-rest.tokens.items c.match-found.tokens.items w.in-Word.is (ap (λ v. v.items) w.tokens-is ∙ w.in_ok-push-in-Word.ensures.items) ] in
    next c.args.bytes.now c.loop-rest.tokens.items c.match-found.tokens.items c.loop-rest.rest.now c.split_at.result.1.now c.in-Ok.found c.length.result
    c.loop-rest.invariant c.in-Ok.ensures read c.length.ensures c.split_at.ensures.back

pub returns-in-Err-clause-only : goal.returns-in-Err-clause-only
returns-in-Err-clause-only c =
    λ tokens h fault e. apart c.args.bytes.now tokens _ h (faulted c.args.bytes.now _ c.loop-rest.rest.now c.in-Err.wrong.kind c.in-Err.wrong.before c.loop-rest.invariant c.in-Err.ensures)
