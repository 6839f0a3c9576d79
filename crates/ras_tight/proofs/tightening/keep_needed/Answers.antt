use Rattle.std.proofs.Common.{◌≡◌, ℕ, slice_index_or, ◌+◌, ◌<◌, ◌++◌, ◌∷◌, [], List, length, refl, sym, subst}
use Rattle.std.specs.Prelude.{slice_get, Some}
use Rattle.std.proofs.lemmas.Option.{slice_get_read}
use Rattle.ras_logic.specs.declared.literal.Literal.{Literal}
use Rattle.ras_logic.specs.declared.problem.Problem.{Problem}
use Rattle.ras_logic.specs.Formulas.{Fits}
use Rattle.ras_entail.specs.Entailment.{IsAmong}
use Rattle.ras_tight.specs.Tightened.{SomeEscapes}
use Rattle.ras_tight.specs.Tightening.{IsTightUpTo}
use Rattle.ras_tight.proofs.LeftOut.{rest-fits, tight-without, tight-with}
use Rattle.ras_tight.proofs.tightening.keep_needed.Goals as goal

-- the literal that was read
literal-at : (literals read : List Literal) (place : ℕ) (l : Literal) → read ≡ literals → place < length literals → l ≡ slice_index_or read place l → slice_get literals place ≡ Some l
literal-at literals read place l same within is =
    subst (λ (ls : List Literal). slice_get ls place ≡ Some l) same (slice_get_read read (length read) place l refl (rw same within) is)

pub is_idle-requires-clause-rest : goal.is_idle-requires-clause-rest
is_idle-requires-clause-rest c =
    subst (Fits c.args.shape.now) (sym c.in_ok-rest.ensures)
    (rest-fits c.args.shape.now c.args.whole.now c.args.list.now c.args.kept.now c.args.place c.index-literals-place.result (literal-at c.args.whole.now.literals c.as_slice-literals.result.now c.args.place c.index-literals-place.result c.as_slice-literals.ensures.items c.requires.place c.index-literals-place.is) c.requires.so_far c.requires.fits)

pub returns-then-branch : goal.returns-then-branch
returns-then-branch c =
    tight-without c.args.shape.now c.args.whole.now c.args.list.now c.args.kept.now c.args.place c.index-literals-place.result (literal-at c.args.whole.now.literals c.as_slice-literals.result.now c.args.place c.index-literals-place.result c.as_slice-literals.ensures.items c.requires.place c.index-literals-place.is) c.requires.so_far
    (subst (λ (rest : Problem). IsAmong c.args.shape.now rest c.args.list.now) c.in_ok-rest.ensures (rw c.if-branch.true at c.in_ok-is_idle.ensures.idle))

pub returns : goal.returns
returns c =
    let pushed : c.push.new.self ≡ c.args.kept.now ++ c.index-literals-place.result ∷ [] = rw (← c.in_ok-copy.ensures) c.in_ok-push.ensures.ok in
    subst (IsTightUpTo c.args.shape.now c.args.whole.now c.args.list.now (c.args.place + 1)) (sym pushed)
    (tight-with c.args.shape.now c.args.whole.now c.args.list.now c.args.kept.now c.args.place c.index-literals-place.result (literal-at c.args.whole.now.literals c.as_slice-literals.result.now c.args.place c.index-literals-place.result c.as_slice-literals.ensures.items c.requires.place c.index-literals-place.is) c.requires.so_far
    (subst (λ (rest : Problem). SomeEscapes c.args.shape.now rest c.args.list.now) c.in_ok-rest.ensures (rw c.if-branch.false at c.in_ok-is_idle.ensures.needed)))
