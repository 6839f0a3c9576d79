-- The walk over the choices of rows: what holds where it stands.
use Rattle.std.proofs.Common.{◌≡◌, ◌≢◌, ℕ, zero, suc, ◌+◌, ◌<◌, ◌≤◌, Bool, true, false, not, List, [], ◌∷◌, ◌++◌, length, get_or, set, take, min, max, map, nat_eq, refl, sym, ◌∙◌, ap, subst, arith, ◌⊎◌, inl, inr, add-one, below_more, length-set, get_or-set_other, get_or-set_same}
use Rattle.std.specs.Prelude.{slice_get, Some, IsTrue, All}
use Rattle.std.proofs.lemmas.Option.{slice_get_within, slice_get-get_or, get_or_from_slice_get, same_Some}
use Rattle.std.proofs.lemmas.Bool.{cases_lt, cases_eq, cases_order}
use Rattle.std.proofs.lemmas.List.{take_more, take-take, take-set-le, take_all, get_or-take, length-take-le, get_or_default}
use Rattle.std.proofs.lemmas.List.Elements.{All-weaker}
use Rattle.ras_logic.specs.declared.ids.RelId.{RelId}
use Rattle.ras_logic.specs.declared.raw_db.RawDb.{RawDb}
use Rattle.ras_logic.specs.declared.values.Values.{Values}
use Rattle.ras_logic.specs.declared.term.Base.{Base}
use Rattle.ras_logic.specs.declared.term.Base.TheVariants.{Var, Cell, Constant, Undef, Param}
use Rattle.ras_logic.specs.declared.term.Term.{Term}
use Rattle.ras_logic.specs.declared.literal.Literal.{Literal}
use Rattle.ras_logic.specs.declared.literal.Literal.TheVariants.{Equal}
use Rattle.ras_logic.specs.Truth.{value_of_base, value, image_along, holds}
use Rattle.ras_system.specs.declared.state.State.{State}
use Rattle.ras_system.specs.States.{rows_of, cells_of, values_at, AreRows}
use Rattle.ras_steps.specs.Choosing.{MeetsBy, ComesBefore, IsFirstChoice}
use Rattle.ras_steps.specs.Searching.{cube_of, rows_to, due_at, DueHold, IsNew, IsPartial, NoneBefore, StandsAt}

-- what needs only the first rows is the same whatever rows follow
cells_front : (s : State) (rows : List RelId) (chosen : List ℕ) (k row : ℕ) → row < k
    → get_or (cells_of s rows (take k chosen)) row [] ≡ get_or (cells_of s rows chosen) row []
cells_front s [] chosen k row lt = refl
cells_front s (r ∷ rows) [] zero row lt = refl
cells_front s (r ∷ rows) [] (suc k) row lt = refl
cells_front s (r ∷ rows) (c ∷ chosen) zero row lt = absurd (omega arith)
cells_front s (r ∷ rows) (c ∷ chosen) (suc k) zero lt = refl
cells_front s (r ∷ rows) (c ∷ chosen) (suc k) (suc row) lt = cells_front s rows chosen k row (omega arith)

module _ (d : RawDb) (s : State) (rows : List RelId) where
  base_front : (chosen : List ℕ) (k : ℕ) (b : Base) → rows_to b ≤ k → value_of_base d (values_at s rows (take k chosen) []) b ≡ value_of_base d (values_at s rows chosen []) b
  base_front chosen k (Var v) le = refl
  base_front chosen k (Cell row column) le = ap (λ (cells : List ℕ). get_or cells column 0) (cells_front s rows chosen k row (omega arith))
  base_front chosen k (Constant c) le = refl
  base_front chosen k (Undef u) le = refl
  base_front chosen k (Param p) le = refl

  term_front : (chosen : List ℕ) (k : ℕ) (t : Term) → rows_to t.base ≤ k → value d (values_at s rows (take k chosen) []) t ≡ value d (values_at s rows chosen []) t
  term_front chosen k t le = ap (image_along d t.path) (base_front chosen k t.base le)

  literal_front : (chosen : List ℕ) (k : ℕ) (left right : Term) (same : Bool) → rows_to left.base ≤ k → rows_to right.base ≤ k
      → holds d (values_at s rows (take k chosen) []) (Equal left right same) ≡ holds d (values_at s rows chosen []) (Equal left right same)
  literal_front chosen k left right true l r = ap (λ (x : ℕ). nat_eq x (value d (values_at s rows (take k chosen) []) right)) (term_front chosen k left l)
      ∙ ap (nat_eq (value d (values_at s rows chosen []) left)) (term_front chosen k right r)
  literal_front chosen k left right false l r = ap not (ap (λ (x : ℕ). nat_eq x (value d (values_at s rows (take k chosen) []) right)) (term_front chosen k left l)
      ∙ ap (nat_eq (value d (values_at s rows chosen []) left)) (term_front chosen k right r))

  -- a literal that is due at the first rows is judged there as it is under all rows
  due_front : (chosen : List ℕ) (k : ℕ) (l : Literal) → length chosen ≤ length rows → due_at rows l ≤ k
      → holds d (values_at s rows (take k chosen) []) l ≡ holds d (values_at s rows chosen []) l
  due_front chosen k (Equal left right same) short due = go (cases_lt k (length rows))
    where
      go : (k < length rows) ⊎ (length rows ≤ k) → holds d (values_at s rows (take k chosen) []) (Equal left right same) ≡ holds d (values_at s rows chosen []) (Equal left right same)
      go (inl lt) = literal_front chosen k left right same (omega arith) (omega arith)
      go (inr le) = ap (λ (c : List ℕ). holds d (values_at s rows c []) (Equal left right same)) (take_all k chosen (omega arith))

  module _ (literals : List Literal) where
    -- all literals hold under the rows of a choice, so those that are due at the first of them do
    due_of_choice : (other : List ℕ) (k : ℕ) → MeetsBy d s (cube_of rows literals) other
        → All (λ (l : Literal). due_at rows l ≤ k → IsTrue (holds d (values_at s rows (take k other) []) l)) literals
    due_of_choice other k by = All-weaker (λ (l : Literal). IsTrue (holds d (values_at s rows other []) l))
        (λ (l : Literal). due_at rows l ≤ k → IsTrue (holds d (values_at s rows (take k other) []) l))
        (λ l holds_all due. let as_many : length other ≡ length rows = by.rows.as_many in due_front other k l (omega arith) due ∙ holds_all) literals by.literals

    new_of_choice : (other : List ℕ) (k : ℕ) → MeetsBy d s (cube_of rows literals) other → IsNew rows other k
    new_of_choice other k by = λ i r lt known there same. let e : i ≡ k = by.rows.different i k r known there same in omega arith

    -- numbers that begin as those of a choice
    fronts : (other numbers : List ℕ) (k : ℕ) → k < length rows → length other ≡ length rows → length rows ≤ length numbers → take k other ≡ take k numbers
        → get_or numbers k 0 ≡ get_or other k 0 → take (k + 1) other ≡ take (k + 1) numbers
    fronts other numbers k lt as_many room same here =
        take_more other k 0 (omega arith) ∙ ap (λ (xs : List ℕ). xs ++ get_or other k 0 ∷ []) same ∙ ap (λ (x : ℕ). take k numbers ++ x ∷ []) (sym here) ∙ sym (take_more numbers k 0 (omega arith))

    same_number : (other numbers : List ℕ) (k i : ℕ) → i < k → take k other ≡ take k numbers → get_or other i 0 ≡ get_or numbers i 0
    same_number other numbers k i lt same = sym (get_or-take k other i 0 lt) ∙ ap (λ (xs : List ℕ). get_or xs i 0) same ∙ get_or-take k numbers i 0 lt

    new_from_choice : (other numbers : List ℕ) (k : ℕ) → MeetsBy d s (cube_of rows literals) other → take (k + 1) other ≡ take (k + 1) numbers → IsNew rows numbers k
    new_from_choice other numbers k by same = λ i r lt known there alike.
        new_of_choice other k by i r lt known there (same_number other numbers (k + 1) i (omega arith) same ∙ alike ∙ sym (same_number other numbers (k + 1) k (omega arith) same))

    due_from_choice : (other numbers : List ℕ) (k : ℕ) → MeetsBy d s (cube_of rows literals) other → k ≤ length numbers → take k other ≡ take k numbers
        → DueHold d s rows literals (take k numbers)
    due_from_choice other numbers k by room same =
        All-weaker (λ (l : Literal). due_at rows l ≤ k → IsTrue (holds d (values_at s rows (take k other) []) l))
        (λ (l : Literal). due_at rows l ≡ length (take k numbers) → IsTrue (holds d (values_at s rows (take k numbers) []) l))
        (λ l judged due. let long : length (take k numbers) ≡ k = length-take-le k numbers room in
        subst (λ (c : List ℕ). IsTrue (holds d (values_at s rows c []) l)) same (judged (omega (arith, due, long)))) literals (due_of_choice other k by)

    -- the first place
    pub start : (numbers : List ℕ) → length rows ≤ length numbers → get_or numbers 0 0 ≡ 0 → DueHold d s rows literals [] → StandsAt d s rows literals numbers 0
    start numbers room zero_first due = record {
      room = room;
      within = omega arith;
      so_far = record {
        inside = λ j r lt known. absurd (omega arith);
        different = λ j lt. absurd (omega arith);
        judged = All-weaker (λ (l : Literal). due_at rows l ≡ 0 → IsTrue (holds d (values_at s rows [] []) l))
            (λ (l : Literal). due_at rows l ≤ 0 → IsTrue (holds d (values_at s rows [] []) l)) (λ l h le. h (omega (arith, le))) literals due;
      };
      none_before = λ other by i le lt same. let e : i ≡ 0 = omega arith in subst (λ (j : ℕ). get_or numbers j 0 ≤ get_or other j 0) (sym e) (omega (arith, zero_first));
    }

    pub no_start : (DueHold d s rows literals [] → ⊥) → (other : List ℕ) → MeetsBy d s (cube_of rows literals) other → ⊥
    no_start none other by = none (due_from_choice other [] 0 by (omega arith) refl)

    -- the numbers change at a place and not before it
    kept_partial : (numbers : List ℕ) (k x : ℕ) → IsPartial d s rows literals numbers k → IsPartial d s rows literals (set numbers k x) k
    kept_partial numbers k x part = record {
      inside = λ j r lt known. let other : j ≢ k = omega arith in rw (get_or-set_other numbers k j x 0 other) (part.inside j r lt known);
      different = λ j lt i r below known there same.
          let i_other : i ≢ k = omega arith in
          let j_other : j ≢ k = omega arith in
          part.different j lt i r below known there (sym (get_or-set_other numbers k i x 0 i_other) ∙ same ∙ get_or-set_other numbers k j x 0 j_other);
      judged = subst (λ (c : List ℕ). All (λ (l : Literal). due_at rows l ≤ k → IsTrue (holds d (values_at s rows c []) l)) literals) (sym (take-set-le k numbers k x (omega arith))) part.judged;
    }

    -- the number at a place is used up
    raised : (numbers : List ℕ) (k : ℕ) → length rows ≤ length numbers → k < length rows → IsPartial d s rows literals numbers k
        → ((other : List ℕ) → MeetsBy d s (cube_of rows literals) other → (i : ℕ) → i ≤ k → take i other ≡ take i numbers → get_or numbers i 0 ≤ get_or other i 0)
        → ((other : List ℕ) → MeetsBy d s (cube_of rows literals) other → take k other ≡ take k numbers → get_or numbers k 0 ≡ get_or other k 0 → ⊥)
        → StandsAt d s rows literals (set numbers k (get_or numbers k 0 + 1)) k
    raised numbers k room lt part before none = record {
      room = rw length-set room;
      within = omega arith;
      so_far = kept_partial numbers k (get_or numbers k 0 + 1) part;
      none_before = λ other by i le below same.
          let old : take i other ≡ take i numbers = same ∙ take-set-le i numbers k (get_or numbers k 0 + 1) le in
          go other by i le old (cases_eq i k);
    }
      where
        go : (other : List ℕ) → MeetsBy d s (cube_of rows literals) other → (i : ℕ) → i ≤ k → take i other ≡ take i numbers → (i ≡ k) ⊎ (i ≡ k → ⊥)
            → get_or (set numbers k (get_or numbers k 0 + 1)) i 0 ≤ get_or other i 0
        go other by i le old (inr ne) = rw (get_or-set_other numbers k i (get_or numbers k 0 + 1) 0 ne) (before other by i le old)
        go other by i le old (inl e) =
            let here : take k other ≡ take k numbers = subst (λ (j : ℕ). take j other ≡ take j numbers) e old in
            let at_least : get_or numbers k 0 ≤ get_or other k 0 = before other by k (omega arith) here in
            let not_same : get_or numbers k 0 ≢ get_or other k 0 = none other by here in
            let room_here : k < length numbers = omega arith in
            rw (e, get_or-set_same numbers k (get_or numbers k 0 + 1) 0 room_here) (omega arith)

    pub next : (numbers : List ℕ) (k : ℕ) → StandsAt d s rows literals numbers k → k < length rows → (IsNew rows numbers k → DueHold d s rows literals (take (k + 1) numbers) → ⊥)
        → StandsAt d s rows literals (set numbers k (get_or numbers k 0 + 1)) k
    next numbers k at lt fails = raised numbers k at.room lt at.so_far (λ other by i le same. at.none_before other by i le (omega arith) same)
        (λ other by same here.
        let front = fronts other numbers k lt by.rows.as_many at.room same here in
        let room : length rows ≤ length numbers = at.room in
        fails (new_from_choice other numbers k by front) (due_from_choice other numbers (k + 1) by (omega arith) front))

    -- the rows before a place are a partial choice at the place before it
    shorter : (numbers : List ℕ) (k : ℕ) → suc k < length rows → length rows ≤ length numbers → IsPartial d s rows literals numbers (suc k) → IsPartial d s rows literals numbers k
    shorter numbers k lt room part = record {
      inside = λ j r below known. part.inside j r (omega arith) known;
      different = λ j below. part.different j (omega arith);
      judged = All-weaker (λ (l : Literal). due_at rows l ≤ suc k → IsTrue (holds d (values_at s rows (take (suc k) numbers) []) l))
          (λ (l : Literal). due_at rows l ≤ k → IsTrue (holds d (values_at s rows (take k numbers) []) l))
          (λ l h due. let longer = h (omega (arith, due)) in let long : length (take (suc k) numbers) ≡ suc k = length-take-le (suc k) numbers (omega arith) in
          ap (λ (c : List ℕ). holds d (values_at s rows c []) l) (sym (take-take k (suc k) numbers (omega arith))) ∙ due_front (take (suc k) numbers) k l (omega arith) due ∙ longer) literals part.judged;
    }

    pub up : (numbers : List ℕ) (k : ℕ) (r : RelId) → StandsAt d s rows literals numbers (suc k) → suc k < length rows → slice_get rows (suc k) ≡ Some r → length (rows_of s r) ≤ get_or numbers (suc k) 0
        → StandsAt d s rows literals (set numbers k (get_or numbers k 0 + 1)) k
    up numbers k r at lt known past = raised numbers k at.room (omega arith) (shorter numbers k lt at.room at.so_far) (λ other by i le same. at.none_before other by i (omega arith) (omega arith) same)
        (λ other by same here.
        let k_lt : k < length rows = omega arith in
        let front = fronts other numbers k k_lt by.rows.as_many at.room same here in
        let at_least : get_or numbers (suc k) 0 ≤ get_or other (suc k) 0 = at.none_before other by (suc k) (omega arith) lt (rw (← add-one) front) in
        let inside : get_or other (suc k) 0 < length (rows_of s r) = by.rows.each (suc k) r known in
        omega arith)

    pub exhausted : (numbers : List ℕ) (r : RelId) → StandsAt d s rows literals numbers 0 → slice_get rows 0 ≡ Some r → length (rows_of s r) ≤ get_or numbers 0 0
        → (other : List ℕ) → MeetsBy d s (cube_of rows literals) other → ⊥
    exhausted numbers r at known past other by =
        let lt : 0 < length rows = slice_get_within rows 0 r known in
        let at_least : get_or numbers 0 0 ≤ get_or other 0 0 = at.none_before other by 0 (omega arith) lt refl in
        let inside : get_or other 0 0 < length (rows_of s r) = by.rows.each 0 r known in
        omega arith

    longer : (numbers : List ℕ) (k : ℕ) (r : RelId) → k < length rows → length rows ≤ length numbers → IsPartial d s rows literals numbers k → slice_get rows k ≡ Some r
        → get_or numbers k 0 < length (rows_of s r) → IsNew rows numbers k → DueHold d s rows literals (take (k + 1) numbers) → IsPartial d s rows literals numbers (k + 1)
    longer numbers k r lt room part known inside new due = record {
      inside = λ j q below there. below_more (λ (i : ℕ). (q : RelId) → slice_get rows i ≡ Some q → get_or numbers i 0 < length (rows_of s q)) k
          (λ i low q there. part.inside i q low there)
          (λ q there. subst (λ (x : RelId). get_or numbers k 0 < length (rows_of s x)) (same_Some r q (sym known ∙ there)) inside) j below q there;
      different = below_more (λ (i : ℕ). IsNew rows numbers i) k part.different new;
      judged = λ i e within le. one (get_or literals i e) (part.judged i e within) (due i e within) le (cases_eq (due_at rows (get_or literals i e)) (k + 1));
    }
      where
        long : length (take (k + 1) numbers) ≡ k + 1
        long = length-take-le (k + 1) numbers (omega arith)

        one : (l : Literal) → (due_at rows l ≤ k → IsTrue (holds d (values_at s rows (take k numbers) []) l))
            → (due_at rows l ≡ length (take (k + 1) numbers) → IsTrue (holds d (values_at s rows (take (k + 1) numbers) []) l)) → due_at rows l ≤ k + 1
            → (due_at rows l ≡ k + 1) ⊎ (due_at rows l ≡ k + 1 → ⊥) → IsTrue (holds d (values_at s rows (take (k + 1) numbers) []) l)
        one l earlier now le (inl e) = now (e ∙ sym long)
        one l earlier now le (inr ne) =
            let due_before : due_at rows l ≤ k = omega (arith, ne, le) in
            sym (due_front (take (k + 1) numbers) k l (omega (arith, long)) due_before) ∙ ap (λ (c : List ℕ). holds d (values_at s rows c []) l) (take-take k (k + 1) numbers (omega arith)) ∙ earlier due_before

    pub down : (numbers : List ℕ) (k : ℕ) (r : RelId) → StandsAt d s rows literals numbers k → k + 1 < length rows → slice_get rows k ≡ Some r → get_or numbers k 0 < length (rows_of s r)
        → IsNew rows numbers k → DueHold d s rows literals (take (k + 1) numbers) → StandsAt d s rows literals (set numbers (k + 1) 0) (k + 1)
    down numbers k r at lt known inside new due = record {
      room = rw length-set at.room;
      within = omega arith;
      so_far = kept_partial numbers (k + 1) 0 (longer numbers k r (omega arith) at.room at.so_far known inside new due);
      none_before = λ other by i le below same. go other by i le below (same ∙ take-set-le i numbers (k + 1) 0 le) (cases_eq i (k + 1));
    }
      where
        go : (other : List ℕ) → MeetsBy d s (cube_of rows literals) other → (i : ℕ) → i ≤ k + 1 → i < length rows → take i other ≡ take i numbers → (i ≡ k + 1) ⊎ (i ≡ k + 1 → ⊥)
            → get_or (set numbers (k + 1) 0) i 0 ≤ get_or other i 0
        go other by i le below same (inr ne) = rw (get_or-set_other numbers (k + 1) i 0 0 ne) (at.none_before other by i (omega arith) below same)
        go other by i le below same (inl e) =
            let room : length rows ≤ length numbers = at.room in
            let room_here : k + 1 < length numbers = omega arith in
            rw (e, get_or-set_same numbers (k + 1) 0 0 room_here) (omega arith)

    pub last : (numbers : List ℕ) (k : ℕ) (r : RelId) → StandsAt d s rows literals numbers k → k + 1 ≡ length rows → slice_get rows k ≡ Some r → get_or numbers k 0 < length (rows_of s r)
        → IsNew rows numbers k → DueHold d s rows literals (take (k + 1) numbers) → StandsAt d s rows literals numbers (k + 1)
    last numbers k r at e known inside new due = record {
      room = at.room;
      within = omega arith;
      so_far = longer numbers k r (omega arith) at.room at.so_far known inside new due;
      none_before = λ other by i le below same. at.none_before other by i (omega arith) below same;
    }

    -- all rows are chosen
    chosen_rows : (numbers : List ℕ) → StandsAt d s rows literals numbers (length rows) → MeetsBy d s (cube_of rows literals) (take (length rows) numbers)
    chosen_rows numbers at = record {
      rows = record {
        as_many = length-take-le (length rows) numbers at.room;
        each = λ k r known. let lt = slice_get_within rows k r known in rw (get_or-take (length rows) numbers k 0 lt) (at.so_far.inside k r lt known);
        different = λ j k r known there same.
            let j_lt = slice_get_within rows j r known in
            let k_lt = slice_get_within rows k r there in
            apart j k r known there (sym (get_or-take (length rows) numbers j 0 j_lt) ∙ same ∙ get_or-take (length rows) numbers k 0 k_lt) j_lt k_lt (cases_order j k);
      };
      literals = All-weaker (λ (l : Literal). due_at rows l ≤ length rows → IsTrue (holds d (values_at s rows (take (length rows) numbers) []) l))
          (λ (l : Literal). IsTrue (holds d (values_at s rows (take (length rows) numbers) []) l)) (λ l h. h (due_in_time l)) literals at.so_far.judged;
    }
      where
        due_in_time : (l : Literal) → due_at rows l ≤ length rows
        due_in_time (Equal left right same) = omega arith

        apart : (j k : ℕ) (r : RelId) → slice_get rows j ≡ Some r → slice_get rows k ≡ Some r → get_or numbers j 0 ≡ get_or numbers k 0 → j < length rows → k < length rows
            → (j ≡ k) ⊎ ((j < k) ⊎ (k < j)) → j ≡ k
        apart j k r known there same j_lt k_lt (inl e) = e
        apart j k r known there same j_lt k_lt (inr (inl lt)) = absurd (at.so_far.different k k_lt j r lt known there same)
        apart j k r known there same j_lt k_lt (inr (inr lt)) = absurd (at.so_far.different j j_lt k r lt there known (sym same))

    pub first_choice : (numbers : List ℕ) (k : ℕ) → StandsAt d s rows literals numbers k → length rows ≤ k → IsFirstChoice d s (cube_of rows literals) (take (length rows) numbers)
    first_choice numbers k at le = record {
      meets = chosen_rows numbers here;
      first = λ other by before.
          let as_many : length other ≡ length rows = by.rows.as_many in
          let within : before.place < length other = before.within in
          let lt : before.place < length rows = omega arith in
          let smaller : get_or other before.place 0 < get_or numbers before.place 0 = rw (get_or-take (length rows) numbers before.place 0 lt) at before.smaller in
          let same : take before.place other ≡ take before.place numbers = before.same ∙ take-take before.place (length rows) numbers (omega arith) in
          let least : get_or numbers before.place 0 ≤ get_or other before.place 0 = here.none_before other by before.place (omega arith) lt same in
          omega arith;
    }
      where
        here : StandsAt d s rows literals numbers (length rows)
        here = let within : k ≤ length rows = at.within in subst (λ (j : ℕ). StandsAt d s rows literals numbers j) (let e : k ≡ length rows = omega arith in e) at
