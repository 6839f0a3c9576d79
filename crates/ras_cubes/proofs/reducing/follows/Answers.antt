use Rattle.std.proofs.Common.{◌≡◌, ◌+◌, ◌<◌, List, [], ◌∷◌, ◌++◌, length, refl, sym, ◌∙◌, ap, subst, ◌⊎◌}
use Rattle.std.specs.Prelude.{slice_get, Some, ◌↔◌}
use Rattle.std.proofs.lemmas.Option.{slice_get_read}
use Rattle.ras_logic.specs.declared.literal.Literal.{Literal}
use Rattle.ras_logic.specs.declared.problem.Problem.{Problem}
use Rattle.ras_logic.specs.Formulas.{Fits, negated}
use Rattle.ras_logic.specs.Clashes.{FactsClash}
use Rattle.ras_closure.specs.Closings.{IsClosureOf}
use Rattle.ras_closure.proofs.Cases.{some_same}
use Rattle.ras_split.specs.Among.{IsAmong}
use Rattle.ras_cubes.specs.Reduced.{IsFrom, IsLeft, Follows}
use Rattle.ras_cubes.proofs.Needed.{problem-same, against-fits, clash-follows, open-different}
use Rattle.ras_cubes.proofs.reducing.follows.Goals as goal

pub of-requires : goal.of-requires
of-requires c =
    let one = subst (λ (xs : List Literal). (l : Literal) → IsAmong c.add_from.new.facts l ↔ (IsAmong xs l ⊎ IsFrom c.args.kept.now 0 l)) c.new-facts.ensures c.in_ok-add_from.ensures in
    let two = subst (λ (xs : List Literal). (l : Literal) → IsAmong c.add_from-2.new.facts l ↔ (IsAmong c.add_from.new.facts l ⊎ IsFrom xs (c.args.place + 1) l)) c.as_slice-literals.ensures.items
    c.in_ok-add_from-2.ensures in
    let inside : c.args.place < length c.as_slice-literals.result.now = rw c.as_slice-literals.ensures.items c.requires.place in
    let read : slice_get c.as_slice-literals.result.now c.args.place ≡ Some c.index-literals-place.result =
    slice_get_read c.as_slice-literals.result.now (length c.as_slice-literals.result.now) c.args.place c.index-literals-place.result refl inside c.index-literals-place.is in
    let at : slice_get c.args.problem.now.literals c.args.place ≡ Some c.in_ok-literal.literal =
    subst (λ (xs : List Literal). slice_get xs c.args.place ≡ Some c.in_ok-literal.literal) c.as_slice-literals.ensures.items (read ∙ ap (λ (y : Literal). Some y) (sym c.in_ok-literal.ensures)) in
    let facts : c.push.new.self ≡ c.add_from-2.new.facts ++ negated c.in_ok-literal.literal ∷ [] = c.in_ok-push.ensures.ok ∙ ap (λ (y : Literal). c.add_from-2.new.facts ++ y ∷ []) c.opposite.ensures in
    let same = problem-same c.in_ok-rows.rows c.args.problem.now.rows c.in_ok-params.params c.args.problem.now.params c.push.new.self (c.add_from-2.new.facts ++ negated c.in_ok-literal.literal ∷ []) c.in_ok-rows.ensures
    c.in_ok-params.ensures facts in
    subst (Fits c.args.shape.now) (sym same) (against-fits c.args.shape.now c.args.problem.now c.args.kept.now c.args.place c.in_ok-literal.literal at c.add_from.new.facts c.add_from-2.new.facts one two c.requires.fits c.requires.kept)

pub returns-in-None-clause-follows : goal.returns-in-None-clause-follows
returns-in-None-clause-follows c l at_l =
    let one = subst (λ (xs : List Literal). (l : Literal) → IsAmong c.add_from.new.facts l ↔ (IsAmong xs l ⊎ IsFrom c.args.kept.now 0 l)) c.new-facts.ensures c.in_ok-add_from.ensures in
    let two = subst (λ (xs : List Literal). (l : Literal) → IsAmong c.add_from-2.new.facts l ↔ (IsAmong c.add_from.new.facts l ⊎ IsFrom xs (c.args.place + 1) l)) c.as_slice-literals.ensures.items
    c.in_ok-add_from-2.ensures in
    let inside : c.args.place < length c.as_slice-literals.result.now = rw c.as_slice-literals.ensures.items c.requires.place in
    let read : slice_get c.as_slice-literals.result.now c.args.place ≡ Some c.index-literals-place.result =
    slice_get_read c.as_slice-literals.result.now (length c.as_slice-literals.result.now) c.args.place c.index-literals-place.result refl inside c.index-literals-place.is in
    let at : slice_get c.args.problem.now.literals c.args.place ≡ Some c.in_ok-literal.literal =
    subst (λ (xs : List Literal). slice_get xs c.args.place ≡ Some c.in_ok-literal.literal) c.as_slice-literals.ensures.items (read ∙ ap (λ (y : Literal). Some y) (sym c.in_ok-literal.ensures)) in
    let facts : c.push.new.self ≡ c.add_from-2.new.facts ++ negated c.in_ok-literal.literal ∷ [] = c.in_ok-push.ensures.ok ∙ ap (λ (y : Literal). c.add_from-2.new.facts ++ y ∷ []) c.opposite.ensures in
    let same = problem-same c.in_ok-rows.rows c.args.problem.now.rows c.in_ok-params.params c.args.problem.now.params c.push.new.self (c.add_from-2.new.facts ++ negated c.in_ok-literal.literal ∷ []) c.in_ok-rows.ensures
    c.in_ok-params.ensures facts in
    let clash : FactsClash c.args.shape.now.schema c.push.new.self = rw c.in-None.is at c.in_ok-closure.ensures in
    subst (λ (y : Literal). Follows c.args.shape.now c.args.problem.now (IsLeft c.args.kept.now c.args.problem.now.literals (c.args.place + 1)) y) (some_same (sym at ∙ at_l))
    (clash-follows c.args.shape.now c.args.problem.now c.args.kept.now c.args.place c.in_ok-literal.literal at c.add_from.new.facts c.add_from-2.new.facts one two c.known.ensures.shape
    (against-fits c.args.shape.now c.args.problem.now c.args.kept.now c.args.place c.in_ok-literal.literal at c.add_from.new.facts c.add_from-2.new.facts one two c.requires.fits c.requires.kept) (subst (FactsClash c.args.shape.now.schema) facts clash))

pub returns-clause-different : goal.returns-clause-different
returns-clause-different c l at_l among =
    let one = subst (λ (xs : List Literal). (l : Literal) → IsAmong c.add_from.new.facts l ↔ (IsAmong xs l ⊎ IsFrom c.args.kept.now 0 l)) c.new-facts.ensures c.in_ok-add_from.ensures in
    let two = subst (λ (xs : List Literal). (l : Literal) → IsAmong c.add_from-2.new.facts l ↔ (IsAmong c.add_from.new.facts l ⊎ IsFrom xs (c.args.place + 1) l)) c.as_slice-literals.ensures.items
    c.in_ok-add_from-2.ensures in
    let inside : c.args.place < length c.as_slice-literals.result.now = rw c.as_slice-literals.ensures.items c.requires.place in
    let read : slice_get c.as_slice-literals.result.now c.args.place ≡ Some c.index-literals-place.result =
    slice_get_read c.as_slice-literals.result.now (length c.as_slice-literals.result.now) c.args.place c.index-literals-place.result refl inside c.index-literals-place.is in
    let at : slice_get c.args.problem.now.literals c.args.place ≡ Some c.in_ok-literal.literal =
    subst (λ (xs : List Literal). slice_get xs c.args.place ≡ Some c.in_ok-literal.literal) c.as_slice-literals.ensures.items (read ∙ ap (λ (y : Literal). Some y) (sym c.in_ok-literal.ensures)) in
    let facts : c.push.new.self ≡ c.add_from-2.new.facts ++ negated c.in_ok-literal.literal ∷ [] = c.in_ok-push.ensures.ok ∙ ap (λ (y : Literal). c.add_from-2.new.facts ++ y ∷ []) c.opposite.ensures in
    let same = problem-same c.in_ok-rows.rows c.args.problem.now.rows c.in_ok-params.params c.args.problem.now.params c.push.new.self (c.add_from-2.new.facts ++ negated c.in_ok-literal.literal ∷ []) c.in_ok-rows.ensures
    c.in_ok-params.ensures facts in
    let of : IsClosureOf c.args.shape.now (record { rows = c.in_ok-rows.rows; params = c.in_ok-params.params; literals = c.push.new.self }) c.in-Some.closure = rw c.in-Some.is at c.in_ok-closure.ensures in
    open-different c.args.shape.now c.args.problem.now c.args.kept.now c.args.place c.in_ok-literal.literal at c.add_from.new.facts c.add_from-2.new.facts one two c.in-Some.closure
    c.known-in-Some.ensures.table c.known-in-Some.ensures.closure (subst (λ (p : Problem). IsClosureOf c.args.shape.now p c.in-Some.closure) same of)
    (subst (IsAmong c.args.kept.now) (some_same (sym at_l ∙ at)) among)
