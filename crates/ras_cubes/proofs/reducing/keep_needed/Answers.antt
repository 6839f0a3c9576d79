use Rattle.std.proofs.Common.{◌≡◌, ◌+◌, ◌<◌, List, true, false, length, refl, sym, ◌∙◌, ap, subst}
use Rattle.std.specs.Prelude.{slice_get, Some}
use Rattle.std.proofs.lemmas.Option.{slice_get_read, slice_get-get_or}
use Rattle.ras_logic.specs.declared.literal.Literal.{Literal}
use Rattle.ras_split.specs.Among.{IsAmong}
use Rattle.ras_cubes.specs.Reduced.{IsLeft, Follows}
use Rattle.ras_cubes.proofs.Needed.{reduced-left_out, reduced-kept, at-place}
use Rattle.ras_cubes.proofs.reducing.keep_needed.Goals as goal

pub returns-then-branch : goal.returns-then-branch
returns-then-branch c =
    let x = at-place c.args.problem.now.literals c.args.place c.requires.place in
    let follows = subst (λ (xs : List Literal). (l : Literal) → slice_get c.args.problem.now.literals c.args.place ≡ Some l
    → Follows c.args.shape.now c.args.problem.now (IsLeft xs c.args.problem.now.literals (c.args.place + 1)) l) c.as_slice.ensures.items (rw c.if-branch.true at c.in_ok-follows.ensures.follows) in
    reduced-left_out c.args.shape.now c.args.problem.now c.args.place c.args.kept.now c.requires.so_far x.0 x.1 (follows x.0 x.1)

pub returns : goal.returns
returns c =
    let inside : c.args.place < length c.as_slice-2.result.now = rw c.as_slice-2.ensures.items c.requires.place in
    let read : slice_get c.as_slice-2.result.now c.args.place ≡ Some c.index-as_slice-place.result =
    slice_get_read c.as_slice-2.result.now (length c.as_slice-2.result.now) c.args.place c.index-as_slice-place.result refl inside c.index-as_slice-place.is in
    let at : slice_get c.args.problem.now.literals c.args.place ≡ Some c.in_ok-literal.literal =
    subst (λ (xs : List Literal). slice_get xs c.args.place ≡ Some c.in_ok-literal.literal) c.as_slice-2.ensures.items (read ∙ ap (λ (y : Literal). Some y) (sym c.in_ok-literal.ensures)) in
    let different = rw c.if-branch.false at c.in_ok-follows.ensures.different in
    rw c.in_ok-push.ensures.ok
    (reduced-kept c.args.shape.now c.args.problem.now c.args.place c.args.kept.now c.requires.so_far c.in_ok-literal.literal at
    (λ h. different c.in_ok-literal.literal at (subst (λ (xs : List Literal). IsAmong xs c.in_ok-literal.literal) (sym c.as_slice.ensures.items) h)))
