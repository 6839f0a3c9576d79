-- One turn of the walk over the choices of rows: where it stands then, and that fewer turns are left.
use Rattle.std.proofs.Common.{◌≡◌, ℕ, zero, suc, ◌+◌, ◌<◌, ◌≤◌, List, [], ◌∷◌, length, get_or, set, take, map, refl, sym, ◌∙◌, ap, subst, arith, add-one}
use Rattle.std.specs.Prelude.{slice_get, Some}
use Rattle.std.proofs.lemmas.Option.{slice_get-get_or}
use Rattle.std.proofs.lemmas.List.{get_or-map, length-map, get_or_default}
use Rattle.ras_logic.specs.declared.ids.RelId.{RelId}
use Rattle.ras_logic.specs.declared.raw_db.RawDb.{RawDb}
use Rattle.ras_logic.specs.declared.literal.Literal.{Literal}
use Rattle.ras_system.specs.declared.state.State.{State}
use Rattle.ras_system.specs.States.{rows_of}
use Rattle.ras_steps.specs.Searching.{Passes, StandsAt, widths, turns_left}
use Rattle.ras_steps.proofs.Turns.{left_next, left_down, left_done, left_up}
use Rattle.ras_steps.proofs.Choices.{next, up, down, last}

abbrev none : RelId
none = record { n = 0 }

module _ (d : RawDb) (s : State) (rows : List RelId) (literals : List Literal) where
  -- the walk stands at a place, and fewer turns are left than at another
  abbrev pub IsNearer : List ℕ → ℕ → List ℕ → ℕ → Type 0
  IsNearer new k numbers place =
      StandsAt d s rows literals new k × (turns_left (widths s rows) new k + k < turns_left (widths s rows) numbers place + place)

  width_at : (k : ℕ) → k < length rows → get_or (widths s rows) k 0 ≡ length (rows_of s (get_or rows k none))
  width_at k lt = get_or-map (λ (r : RelId). length (rows_of s r)) rows k none 0 lt

  as_wide : length (widths s rows) ≡ length rows
  as_wide = length-map rows (λ (r : RelId). length (rows_of s r))

  read : (numbers : List ℕ) (k x : ℕ) → k < length numbers → x ≡ get_or numbers k x → get_or numbers k 0 ≡ x
  read numbers k x lt here = get_or_default numbers k 0 x lt ∙ sym here

  inside : (numbers : List ℕ) (place here : ℕ) (found : List (List ℕ)) → place < length rows → get_or numbers place 0 ≡ here → found ≡ rows_of s (get_or rows place none) → here < length found
      → get_or numbers place 0 < length (rows_of s (get_or rows place none))
  inside numbers place here found lt is found_is below = rw is (subst (λ (xs : List (List ℕ)). here < length xs) found_is below)

  pub went_next : (numbers new : List ℕ) (place here : ℕ) (found : List (List ℕ)) → StandsAt d s rows literals numbers place → place < length rows → here ≡ get_or numbers place here
      → found ≡ rows_of s (get_or rows place none) → here < length found → (Passes d s rows literals numbers place → ⊥) → new ≡ set numbers place (here + 1) → IsNearer new place numbers place
  went_next numbers new place here found at lt is found_is below fails put =
      let room : length rows ≤ length numbers = at.room in
      let room_here : place < length numbers = omega arith in
      let value = read numbers place here room_here is in
      let within = inside numbers place here found lt value found_is below in
      let stands = next d s rows literals numbers place at lt (λ is_new due. fails (record { new = is_new; due = due })) in
      let fewer = left_next (widths s rows) numbers place (rw as_wide lt) room_here (rw (width_at place lt) within) in
      let same : set numbers place (get_or numbers place 0 + 1) ≡ new = ap (λ (x : ℕ). set numbers place (x + 1)) value ∙ sym put in (
        subst (λ (xs : List ℕ). StandsAt d s rows literals xs place) same stands,
        subst (λ (xs : List ℕ). turns_left (widths s rows) xs place + place < turns_left (widths s rows) numbers place + place) same (omega (arith, fewer)),
      )

  pub went_back : (numbers new : List ℕ) (place k here before : ℕ) (found : List (List ℕ)) → StandsAt d s rows literals numbers place → place < length rows → suc k ≡ place → here ≡ get_or numbers place here
      → found ≡ rows_of s (get_or rows place none) → length found ≤ here → before ≡ get_or numbers k before → new ≡ set numbers k (before + 1) → IsNearer new k numbers place
  went_back numbers new place k here before found at lt e is found_is past before_is put =
      let room : length rows ≤ length numbers = at.room in
      let room_here : place < length numbers = omega arith in
      let room_before : k < length numbers = omega arith in
      let value = read numbers k before room_before before_is in
      let past_here : length (rows_of s (get_or rows place none)) ≤ get_or numbers place 0 =
      rw (read numbers place here room_here is) (subst (λ (xs : List (List ℕ)). length xs ≤ here) found_is past) in
      let stands = up d s rows literals numbers k (get_or rows place none) (subst (λ (j : ℕ). StandsAt d s rows literals numbers j) (sym e) at) (rw e lt)
      (subst (λ (j : ℕ). slice_get rows j ≡ Some (get_or rows place none)) (sym e) (slice_get-get_or rows place none lt))
      (subst (λ (j : ℕ). length (rows_of s (get_or rows place none)) ≤ get_or numbers j 0) (sym e) past_here) in
      let fewer = left_up (widths s rows) numbers k (rw (as_wide, e) lt) (rw e room_here) (subst (λ (j : ℕ). get_or (widths s rows) j 0 ≤ get_or numbers j 0) (sym e) (rw (width_at place lt) past_here)) in
      let same : set numbers k (get_or numbers k 0 + 1) ≡ new = ap (λ (x : ℕ). set numbers k (x + 1)) value ∙ sym put in (
        subst (λ (xs : List ℕ). StandsAt d s rows literals xs k) same stands,
        subst (λ (xs : List ℕ). turns_left (widths s rows) xs k + k < turns_left (widths s rows) numbers place + place) same
            (subst (λ (j : ℕ). turns_left (widths s rows) (set numbers k (get_or numbers k 0 + 1)) k + k < turns_left (widths s rows) numbers j + j) e (omega (arith, fewer))),
      )

  pub went_on : (numbers new : List ℕ) (place here : ℕ) (found : List (List ℕ)) → StandsAt d s rows literals numbers place → place + 1 < length rows → here ≡ get_or numbers place here
      → found ≡ rows_of s (get_or rows place none) → here < length found → Passes d s rows literals numbers place → new ≡ set numbers (place + 1) 0 → IsNearer new (place + 1) numbers place
  went_on numbers new place here found at more is found_is below passes put =
      let lt : place < length rows = omega arith in
      let room : length rows ≤ length numbers = at.room in
      let room_here : place < length numbers = omega arith in
      let within = inside numbers place here found lt (read numbers place here room_here is) found_is below in
      let stands = down d s rows literals numbers place (get_or rows place none) at more (slice_get-get_or rows place none lt) within passes.new passes.due in
      let fewer = left_down (widths s rows) numbers place (rw as_wide (let deep : suc place < length rows = omega arith in deep)) (let deep : suc place < length numbers = omega arith in deep) (rw (width_at place lt) within) in (
        subst (λ (xs : List ℕ). StandsAt d s rows literals xs (place + 1)) (sym put) stands,
        subst (λ (xs : List ℕ). turns_left (widths s rows) xs (place + 1) + (place + 1) < turns_left (widths s rows) numbers place + place) (sym put)
            (rw add-one (omega (arith, fewer))),
      )

  pub went_last : (numbers : List ℕ) (place here : ℕ) (found : List (List ℕ)) → StandsAt d s rows literals numbers place → place + 1 ≡ length rows → here ≡ get_or numbers place here
      → found ≡ rows_of s (get_or rows place none) → here < length found → Passes d s rows literals numbers place → IsNearer numbers (place + 1) numbers place
  went_last numbers place here found at e is found_is below passes =
      let lt : place < length rows = omega arith in
      let room : length rows ≤ length numbers = at.room in
      let room_here : place < length numbers = omega arith in
      let within = inside numbers place here found lt (read numbers place here room_here is) found_is below in
      let stands = last d s rows literals numbers place (get_or rows place none) at e (slice_get-get_or rows place none lt) within passes.new passes.due in
      let fewer = left_done (widths s rows) numbers place (sym (add-one place) ∙ e ∙ sym as_wide) room_here (rw (width_at place lt) within) in
      (stands, rw add-one (omega (arith, fewer)))

  -- the number before can still rise
  pub can_rise : (numbers : List ℕ) (place k before : ℕ) (found : List (List ℕ)) → StandsAt d s rows literals numbers place → place < length rows → suc k ≡ place → before ≡ get_or numbers k before
      → found ≡ rows_of s (get_or rows k none) → before < length found
  can_rise numbers place k before found at lt e is found_is =
      let room : length rows ≤ length numbers = at.room in
      let k_lt : k < length rows = omega arith in
      let room_before : k < length numbers = omega arith in
      rw found_is (rw (read numbers k before room_before is) at (at.so_far.inside k (get_or rows k none) (let below : k < place = omega arith in below) (slice_get-get_or rows k none k_lt)))
