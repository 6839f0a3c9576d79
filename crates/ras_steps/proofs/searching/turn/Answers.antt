use Rattle.std.proofs.Common.{◌≡◌, ℕ, ◌+◌, ◌-◌, ◌<◌, suc, true, false, List, length, refl, sym, subst, arith}
use Rattle.ras_steps.specs.Searching.{Passes}
use Rattle.ras_steps.proofs.Moves.{went_next, went_back, went_on, went_last, can_rise}
use Rattle.ras_steps.proofs.searching.turn.Goals as goal

pub overflow_add-last : goal.overflow_add-last
overflow_add-last c =
    let before : suc (c.args.place - 1) ≡ c.args.place = omega arith in
    let below = can_rise c.args.db.now c.args.state.now c.args.rows.now c.args.literals.now c.args.numbers.now.items c.args.place (c.args.place - 1) c.index-last.result.now c.rows_of-room.result.now
    c.requires.at c.requires.within before c.index-last.ensures c.rows_of-room.ensures.rows in
    omega (arith, below, c.rows_of-room.ensures.room)

pub overflow_add-here : goal.overflow_add-here
overflow_add-here c = omega (arith, c.rows_of.ensures.room)

pub returns-then-here-rows_of-clause-on : goal.returns-then-here-rows_of-clause-on
returns-then-here-rows_of-clause-on c =
    let before : suc (c.args.place - 1) ≡ c.args.place = omega arith in
    (went_back c.args.db.now c.args.state.now c.args.rows.now c.args.literals.now c.args.numbers.now.items c.put.new.numbers.items c.args.place (c.args.place - 1) c.index-here.result.now c.index-last.result.now c.rows_of.result.now
    c.requires.at c.requires.within before c.index-here.ensures c.rows_of.ensures.rows c.if-here-rows_of.true c.index-last.ensures c.put.ensures).0

pub returns-then-here-rows_of-clause-nearer : goal.returns-then-here-rows_of-clause-nearer
returns-then-here-rows_of-clause-nearer c =
    let before : suc (c.args.place - 1) ≡ c.args.place = omega arith in
    (went_back c.args.db.now c.args.state.now c.args.rows.now c.args.literals.now c.args.numbers.now.items c.put.new.numbers.items c.args.place (c.args.place - 1) c.index-here.result.now c.index-last.result.now c.rows_of.result.now
    c.requires.at c.requires.within before c.index-here.ensures c.rows_of.ensures.rows c.if-here-rows_of.true c.index-last.ensures c.put.ensures).1

pub returns-then-not-fits-clause-on : goal.returns-then-not-fits-clause-on
returns-then-not-fits-clause-on c =
    let fails = λ (passes : Passes c.args.db.now c.args.state.now c.args.rows.now c.args.literals.now c.args.numbers.now.items c.args.place). let both : false ≡ true = c.if-not-fits.ensures.1 (subst (λ (xs : List ℕ). Passes c.args.db.now c.args.state.now c.args.rows.now c.args.literals.now xs c.args.place) (sym c.as_slice.ensures.value) passes) in let none : ⊥ = cc in none in
    (went_next c.args.db.now c.args.state.now c.args.rows.now c.args.literals.now c.args.numbers.now.items c.put-then-not-fits.new.numbers.items c.args.place c.index-here.result.now c.rows_of.result.now
    c.requires.at c.requires.within c.index-here.ensures c.rows_of.ensures.rows c.if-here-rows_of.false fails c.put-then-not-fits.ensures).0

pub returns-then-not-fits-clause-nearer : goal.returns-then-not-fits-clause-nearer
returns-then-not-fits-clause-nearer c =
    let fails = λ (passes : Passes c.args.db.now c.args.state.now c.args.rows.now c.args.literals.now c.args.numbers.now.items c.args.place). let both : false ≡ true = c.if-not-fits.ensures.1 (subst (λ (xs : List ℕ). Passes c.args.db.now c.args.state.now c.args.rows.now c.args.literals.now xs c.args.place) (sym c.as_slice.ensures.value) passes) in let none : ⊥ = cc in none in
    (went_next c.args.db.now c.args.state.now c.args.rows.now c.args.literals.now c.args.numbers.now.items c.put-then-not-fits.new.numbers.items c.args.place c.index-here.result.now c.rows_of.result.now
    c.requires.at c.requires.within c.index-here.ensures c.rows_of.ensures.rows c.if-here-rows_of.false fails c.put-then-not-fits.ensures).1

pub returns-then-place-rows-clause-on : goal.returns-then-place-rows-clause-on
returns-then-place-rows-clause-on c =
    (went_last c.args.db.now c.args.state.now c.args.rows.now c.args.literals.now c.args.numbers.now.items c.args.place c.index-here.result.now c.rows_of.result.now
    c.requires.at c.if-place-rows.true c.index-here.ensures c.rows_of.ensures.rows c.if-here-rows_of.false
    (subst (λ (xs : List ℕ). Passes c.args.db.now c.args.state.now c.args.rows.now c.args.literals.now xs c.args.place) c.as_slice.ensures.value (c.if-not-fits.ensures.0 refl))).0

pub returns-then-place-rows-clause-nearer : goal.returns-then-place-rows-clause-nearer
returns-then-place-rows-clause-nearer c =
    (went_last c.args.db.now c.args.state.now c.args.rows.now c.args.literals.now c.args.numbers.now.items c.args.place c.index-here.result.now c.rows_of.result.now
    c.requires.at c.if-place-rows.true c.index-here.ensures c.rows_of.ensures.rows c.if-here-rows_of.false
    (subst (λ (xs : List ℕ). Passes c.args.db.now c.args.state.now c.args.rows.now c.args.literals.now xs c.args.place) c.as_slice.ensures.value (c.if-not-fits.ensures.0 refl))).1

pub returns-clause-on : goal.returns-clause-on
returns-clause-on c =
    let more : c.args.place + 1 < length c.args.rows.now = omega arith in
    (went_on c.args.db.now c.args.state.now c.args.rows.now c.args.literals.now c.args.numbers.now.items c.put-2.new.numbers.items c.args.place c.index-here.result.now c.rows_of.result.now
    c.requires.at more c.index-here.ensures c.rows_of.ensures.rows c.if-here-rows_of.false
    (subst (λ (xs : List ℕ). Passes c.args.db.now c.args.state.now c.args.rows.now c.args.literals.now xs c.args.place) c.as_slice.ensures.value (c.if-not-fits.ensures.0 refl)) c.put-2.ensures).0

pub returns-clause-nearer : goal.returns-clause-nearer
returns-clause-nearer c =
    let more : c.args.place + 1 < length c.args.rows.now = omega arith in
    (went_on c.args.db.now c.args.state.now c.args.rows.now c.args.literals.now c.args.numbers.now.items c.put-2.new.numbers.items c.args.place c.index-here.result.now c.rows_of.result.now
    c.requires.at more c.index-here.ensures c.rows_of.ensures.rows c.if-here-rows_of.false
    (subst (λ (xs : List ℕ). Passes c.args.db.now c.args.state.now c.args.rows.now c.args.literals.now xs c.args.place) c.as_slice.ensures.value (c.if-not-fits.ensures.0 refl)) c.put-2.ensures).1
