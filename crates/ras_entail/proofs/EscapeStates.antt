-- What a state meets that has just the rows of a problem.
use Rattle.std.proofs.Common.{◌≡◌, ℕ, zero, suc, ◌<◌, ◌≤◌, List, [], ◌∷◌, ◌++◌, length, map, get_or, refl, sym, ◌∙◌, ap, subst, arith, ◌⊎◌, inl, inr, ⊎_elim, length-append}
use Rattle.std.specs.Prelude.{slice_get, Some, All, IsTrue}
use Rattle.std.specs.List.{AllZip}
use Rattle.std.proofs.lemmas.List.{get_or_append_left, get_or_push, get_or-map, length-map, same_lists, get_or_default}
use Rattle.std.proofs.lemmas.List.Elements.{All-map, All-weaker}
use Rattle.std.proofs.lemmas.Option.{slice_get_within, slice_get-get_or, get_or_from_slice_get}
use Rattle.ras_logic.specs.declared.ids.SortId.{SortId}
use Rattle.ras_logic.specs.declared.ids.RelId.{RelId}
use Rattle.ras_logic.specs.declared.raw_db.RawDb.{RawDb}
use Rattle.ras_logic.specs.declared.values.Values.{Values}
use Rattle.ras_logic.specs.declared.literal.Literal.{Literal}
use Rattle.ras_logic.specs.declared.problem.Problem.{Problem}
use Rattle.ras_logic.specs.Shapes.{ShapeParts}
use Rattle.ras_logic.specs.Formulas.{LiteralFits, Fits, IsCube, replace}
use Rattle.ras_logic.specs.Truth.{AreElements, IsRow, AreValues, AllHold, holds}
use Rattle.ras_logic.specs.Refutations.{AreRowsOf, chosen_row, HoldsOfSome}
use Rattle.ras_logic.proofs.Elements.{from_known}
use Rattle.ras_refute.proofs.Choices.{rows-from, rows-long}
use Rattle.ras_system.specs.declared.state.State.{State}
use Rattle.ras_system.specs.States.{rows_of, IsState, AreRows, cells_of, values_at, Meets, MeetsAny}
use Rattle.ras_steps.proofs.NamedRows.{count_of, row_of}
use Rattle.ras_entail.specs.EscapeStates.{IsStateOfRows}
use Rattle.ras_entail.proofs.Replacing.{holds-same}
use Rattle.ras_row_maps.proofs.ListPairs.{place_cases}

-- the cells of a chosen row
pub cells-of_row : (s : State) (rows : List RelId) (chosen : List ℕ) (k : ℕ) (r : RelId) → length chosen ≡ length rows → slice_get rows k ≡ Some r
    → get_or (cells_of s rows chosen) k [] ≡ get_or (rows_of s r) (get_or chosen k 0) []
cells-of_row s rows chosen k r long known =
    let lt : k < length rows = slice_get_within rows k r known in
    row_of s rows chosen k r lt (omega (arith, lt, long)) ∙ ap (λ (q : RelId). get_or (rows_of s q) (get_or chosen k 0) []) (get_or_from_slice_get rows k r r known)

module _ (shape : ShapeParts) (d : RawDb) (rows : List RelId) (params : List SortId) (v : Values) (values : AreValues shape d rows params v) (s : State) (of : IsStateOfRows shape rows v s) where
  -- the numbers of the rows of a relation
  numbers : RelId → List ℕ
  numbers r = (of.rows_are r).numbers

  count : (r : RelId) → length (rows_of s r) ≡ length (numbers r)
  unfolding numbers
  count r = ap (λ (found : List (List ℕ)). length found) (of.rows_are r).found_are ∙ length-map (of.rows_are r).numbers (λ (k : ℕ). get_or v.rows k [])

  cells-at : (r : RelId) (i : ℕ) → i < length (rows_of s r) → get_or (rows_of s r) i [] ≡ get_or v.rows (get_or (numbers r) i 0) []
  unfolding numbers
  cells-at r i lt =
      ap (λ (found : List (List ℕ)). get_or found i []) (of.rows_are r).found_are ∙ get_or-map (λ (k : ℕ). get_or v.rows k []) (of.rows_are r).numbers i 0 [] (omega (arith, lt, count r))

  known-at : (r : RelId) (i : ℕ) → i < length (rows_of s r) → slice_get rows (get_or (numbers r) i 0) ≡ Some r
  unfolding numbers
  known-at r i lt = ((of.rows_are r).each i 0 (omega (arith, lt, count r))).1

  one-place : (r : RelId) (i j : ℕ) → i < length (rows_of s r) → j < length (rows_of s r) → get_or (numbers r) i 0 ≡ get_or (numbers r) j 0 → i ≡ j
  unfolding numbers
  one-place r i j lt_i lt_j e = go (order i j)
    where
      order : (m n : ℕ) → (m ≡ n) ⊎ ((m < n) ⊎ (n < m))
      order m n = grind arith

      go : (i ≡ j) ⊎ ((i < j) ⊎ (j < i)) → i ≡ j
      go (inl same) = same
      go (inr (inl lt)) = let h = (of.rows_are r).in_order i j 0 lt (omega (arith, lt_j, count r)) in absurd (omega (arith, h, e))
      go (inr (inr lt)) = let h = (of.rows_are r).in_order j i 0 lt (omega (arith, lt_i, count r)) in absurd (omega (arith, h, e))

  -- it is a state of the database
  pub rows-state : IsState shape d s
  rows-state = record {
    vars = subst (AreElements d shape.vars) (sym of.vars) values.vars;
    as_many = of.as_many;
    rows = λ r lt.
        let are = of.rows_are r in
        subst (All (IsRow shape d r)) (sym are.found_are)
        (All-map (IsRow shape d r) (λ (k : ℕ). get_or v.rows k []) are.numbers
        (All-weaker (λ (k : ℕ). (k < length rows) × (slice_get rows k ≡ Some r)) (λ (k : ℕ). IsRow shape d r (get_or v.rows k [])) (λ k h. values.each_row k r h.1) are.numbers are.each));
  }

  -- the place of a named row among those of its relation
  record IsPlaceOf (r : RelId) (k i : ℕ) : Type 0 where
    within : i < length (rows_of s r)
    number : get_or (numbers r) i 0 ≡ k

  place-of : (r : RelId) (k : ℕ) → slice_get rows k ≡ Some r → (i : ℕ) × IsPlaceOf r k i
  unfolding numbers
  place-of r k known =
      let h = (of.rows_are r).every k (slice_get_within rows k r known) known in
      (h.0, record { within = omega (arith, h.1, count r); number = get_or_default (of.rows_are r).numbers h.0 0 k h.1 ∙ h.2 })

  record ArePlaces (n : ℕ) (chosen : List ℕ) : Type 0 where
    long : length chosen ≡ n
    each : (k : ℕ) (r : RelId) → k < n → slice_get rows k ≡ Some r → IsPlaceOf r k (get_or chosen k 0)

  places : (n : ℕ) → n ≤ length rows → (chosen : List ℕ) × ArePlaces n chosen
  places zero le = ([], record { long = refl; each = λ k r lt known. absurd (omega (arith, lt)) })
  places (suc n) le =
      let less = places n (omega (arith, le)) in
      let q : RelId = get_or rows n (record { n = 0 }) in
      let last = place-of q n (slice_get-get_or rows n (record { n = 0 }) (omega (arith, le))) in
      (less.0 ++ last.0 ∷ [], more n le less.0 less.1 q (slice_get-get_or rows n (record { n = 0 }) (omega (arith, le))) last.0 last.1)
    where
      more : (n : ℕ) → suc n ≤ length rows → (chosen : List ℕ) → ArePlaces n chosen → (q : RelId) → slice_get rows n ≡ Some q → (i : ℕ) → IsPlaceOf q n i → ArePlaces (suc n) (chosen ++ i ∷ [])
      more n le chosen are q here i place = record {
        long = omega (arith, length-append chosen (i ∷ []), are.long);
        each = λ k r lt known. ⊎_elim (λ (below : k < n). rw (get_or_append_left chosen (i ∷ []) 0 k (omega (arith, below, are.long))) (are.each k r below known))
            (λ (e : k ≡ n).
            let same : Some q ≡ Some r = sym here ∙ subst (λ (j : ℕ). slice_get rows j ≡ Some r) e known in
            rw (get_or_push chosen i 0 k (are.long ∙ sym e)) (subst (λ (j : ℕ). IsPlaceOf r j i) (sym e) (subst (λ (p : RelId). IsPlaceOf p n i) (cc same) place)))
            (place_cases k n (omega (arith, lt)));
      }

  places-rows : (chosen : List ℕ) → ArePlaces (length rows) chosen → AreRows s rows chosen
  places-rows chosen are = record {
    as_many = are.long;
    each = λ k r known. (are.each k r (slice_get_within rows k r known) known).within;
    different = λ j k r known_j known_k e.
        sym (are.each j r (slice_get_within rows j r known_j) known_j).number ∙ ap (λ (i : ℕ). get_or (numbers r) i 0) e ∙ (are.each k r (slice_get_within rows k r known_k) known_k).number;
  }

  places-cells : (chosen : List ℕ) → ArePlaces (length rows) chosen → cells_of s rows chosen ≡ v.rows
  places-cells chosen are =
      same_lists (cells_of s rows chosen) v.rows (omega (arith, count_of s rows chosen, are.long, values.as_many_rows))
      (λ k e lt.
      let within : k < length rows = omega (arith, lt, count_of s rows chosen, are.long) in
      let r : RelId = get_or rows k (record { n = 0 }) in
      let known : slice_get rows k ≡ Some r = slice_get-get_or rows k (record { n = 0 }) within in
      let place = are.each k r within known in
      get_or_default (cells_of s rows chosen) k e [] lt
      ∙ cells-of_row s rows chosen k r are.long known ∙ cells-at r (get_or chosen k 0) place.within ∙ ap (λ (j : ℕ). get_or v.rows j []) place.number
      ∙ get_or_default v.rows k [] e (omega (arith, within, values.as_many_rows)))

  -- it meets a problem whose rows they are, where the values satisfy it
  pub rows-meet : (literals : List Literal) → AllHold d v literals → Meets d s (record { rows = rows; params = params; literals = literals })
  rows-meet literals hold =
      let p = places (length rows) (omega arith) in
      (p.0, v.params, places-rows p.0 p.1, values.param_values, subst (λ (w : Values). AllHold d w literals) (sym (same-values p.0 p.1)) hold)
    where
      same-values : (chosen : List ℕ) → ArePlaces (length rows) chosen → values_at s rows chosen v.params ≡ v
      same-values chosen are = rw (of.vars, places-cells chosen are) refl

  -- the numbers of the named rows that these rows of the state are
  named : List RelId → List ℕ → List ℕ
  named [] chosen = []
  named (r ∷ own) [] = []
  named (r ∷ own) (i ∷ chosen) = get_or (numbers r) i 0 ∷ named own chosen

  named-long : (own : List RelId) (chosen : List ℕ) → length chosen ≡ length own → length (named own chosen) ≡ length own
  unfolding named
  named-long [] chosen e = refl
  named-long (r ∷ own) [] e = absurd (omega (arith, e))
  named-long (r ∷ own) (i ∷ chosen) e = ap suc (named-long own chosen (omega (arith, e)))

  named-at : (own : List RelId) (chosen : List ℕ) (k : ℕ) (r : RelId) → length chosen ≡ length own → slice_get own k ≡ Some r → get_or (named own chosen) k 0 ≡ get_or (numbers r) (get_or chosen k 0) 0
  unfolding named
  named-at [] chosen k r e known = absurd (cc)
  named-at (q ∷ own) [] k r e known = absurd (omega (arith, e))
  named-at (q ∷ own) (i ∷ chosen) zero r e known = let same : q ≡ r = cc in rw same refl
  named-at (q ∷ own) (i ∷ chosen) (suc k) r e known = named-at own chosen k r (omega (arith, e)) known

  named-rows : (own : List RelId) (chosen : List ℕ) → AreRows s own chosen → AreRowsOf rows own (named own chosen)
  named-rows own chosen are =
      rows-from rows own (named own chosen) (length own) (sym long) long
      (record {
        relations = λ j lt.
            let r : RelId = get_or own j (record { n = 0 }) in
            let known : slice_get own j ≡ Some r = slice_get-get_or own j (record { n = 0 }) lt in
            rw (named-at own chosen j r are.as_many known) (known-at r (get_or chosen j 0) (are.each j r known)) ∙ sym known;
        different = λ i j lt_i lt e. differ i j lt_i lt e;
      })
    where
      long : length (named own chosen) ≡ length own
      long = named-long own chosen are.as_many

      differ : (i j : ℕ) → i < length own → j < i → get_or (named own chosen) j 0 ≡ get_or (named own chosen) i 0 → ⊥
      differ i j lt_i lt e =
          let q : RelId = get_or own j (record { n = 0 }) in
          let r : RelId = get_or own i (record { n = 0 }) in
          let known_q : slice_get own j ≡ Some q = slice_get-get_or own j (record { n = 0 }) (omega (arith, lt, lt_i)) in
          let known_r : slice_get own i ≡ Some r = slice_get-get_or own i (record { n = 0 }) lt_i in
          let number : get_or (numbers q) (get_or chosen j 0) 0 ≡ get_or (numbers r) (get_or chosen i 0) 0 =
          sym (named-at own chosen j q are.as_many known_q) ∙ e ∙ named-at own chosen i r are.as_many known_r in
          let at_q = known-at q (get_or chosen j 0) (are.each j q known_q) in
          let at_r = known-at r (get_or chosen i 0) (are.each i r known_r) in
          let both : Some q ≡ Some r = sym at_q ∙ ap (λ (k : ℕ). slice_get rows k) number ∙ at_r in
          let same : q ≡ r = cc both in
          let known : slice_get own j ≡ Some r = known_q ∙ both in
          let place : get_or chosen j 0 ≡ get_or chosen i 0 =
          one-place r (get_or chosen j 0) (get_or chosen i 0) (are.each j r known) (are.each i r known_r) (subst (λ (p : RelId). get_or (numbers p) (get_or chosen j 0) 0 ≡ get_or (numbers r) (get_or chosen i 0) 0) same number) in
          let equal : j ≡ i = are.different j i r known known_r place in
          omega (arith, lt, equal)

  -- where it meets a cube, the cube holds of some of the named rows
  pub meets-rows : (list : List Problem) → All (Fits shape) list → All IsCube list → MeetsAny d s list → HoldsOfSome d v rows list
  meets-rows list fit cubes (number, cube, lt, at, m) = record {
    number = number;
    formula = cube;
    known = known;
    chosen = named cube.rows m.0;
    rows_of = named-rows cube.rows m.0 m.2;
    literals = All-map (λ (l : Literal). IsTrue (holds d v l)) (replace (chosen_row (named cube.rows m.0))) cube.literals
        (λ k l lt_k. same (get_or cube.literals k l) (literals_fit k l lt_k) ∙ m.4 k l lt_k);
  }
    where
      known : slice_get list number ≡ Some cube
      known = subst (λ (p : Problem). slice_get list number ≡ Some p) at (slice_get-get_or list number cube lt)

      literals_fit : All (LiteralFits shape cube.rows []) cube.literals
      literals_fit = subst (λ (q : List SortId). All (LiteralFits shape cube.rows q) cube.literals) (from_known IsCube list cubes number cube known).none (from_known (Fits shape) list fit number cube known).literals

      same : (l : Literal) → LiteralFits shape cube.rows [] l → holds d v (replace (chosen_row (named cube.rows m.0)) l) ≡ holds d (values_at s cube.rows m.0 m.1) l
      same l f =
          holds-same shape d cube.rows (named cube.rows m.0) (values_at s cube.rows m.0 m.1) v of.vars
          (λ k r here. cells-of_row s cube.rows m.0 k r m.2.as_many here ∙ cells-at r (get_or m.0 k 0) (m.2.each k r here)
          ∙ ap (λ (j : ℕ). get_or v.rows j []) (sym (named-at cube.rows m.0 k r m.2.as_many here))) l f

pub row-at : (rows own : List RelId) (map : List ℕ) → AllZip (λ (r : RelId) (k : ℕ). slice_get rows k ≡ Some r) own map → (k : ℕ) (r : RelId) → slice_get own k ≡ Some r → slice_get rows (get_or map k 0) ≡ Some r
row-at rows [] map z k r known = absurd (cc)
row-at rows (q ∷ own) [] z k r known = absurd z
row-at rows (q ∷ own) (i ∷ map) z zero r known = z.0 ∙ known
row-at rows (q ∷ own) (i ∷ map) z (suc k) r known = row-at rows own map z.1 k r known

-- the chosen rows, by numbers of places among them
abbrev through : List ℕ → List ℕ → List ℕ
through chosen numbers = map (λ (k : ℕ). get_or chosen k 0) numbers

-- where the premise's rows are rows of a state, and a cube of the list holds of some of them, the state meets the list
pub chosen-meet : (shape : ShapeParts) (d : RawDb) (s : State) (rows : List RelId) (chosen params : List ℕ) → AreRows s rows chosen → (list : List Problem) → All (Fits shape) list → All IsCube list
    → HoldsOfSome d (values_at s rows chosen params) rows list → MeetsAny d s list
chosen-meet shape d s rows chosen params are list fit cubes some =
    (some.number, some.formula, slice_get_within list some.number some.formula some.known, get_or_from_slice_get list some.number some.formula some.formula some.known, ((through chosen some.chosen), [], own-rows, no_params, hold))
  where
    long : length some.chosen ≡ length some.formula.rows
    long = rows-long rows some.formula.rows some.chosen some.rows_of

    own-long : length (through chosen some.chosen) ≡ length some.formula.rows
    own-long = length-map some.chosen (λ (k : ℕ). get_or chosen k 0) ∙ long

    own-at : (k : ℕ) → k < length some.formula.rows → get_or (through chosen some.chosen) k 0 ≡ get_or chosen (get_or some.chosen k 0) 0
    own-at k lt = get_or-map (λ (j : ℕ). get_or chosen j 0) some.chosen k 0 0 (omega (arith, lt, long))

    at : (k : ℕ) (r : RelId) → slice_get some.formula.rows k ≡ Some r → slice_get rows (get_or some.chosen k 0) ≡ Some r
    at k r known = row-at rows some.formula.rows some.chosen some.rows_of.relations k r known

    own-rows : AreRows s some.formula.rows (through chosen some.chosen)
    own-rows = record {
      as_many = own-long;
      each = λ k r known. rw (own-at k (slice_get_within some.formula.rows k r known)) (are.each (get_or some.chosen k 0) r (at k r known));
      different = λ j k r known_j known_k e.
          let lt_j : j < length some.formula.rows = slice_get_within some.formula.rows j r known_j in
          let lt_k : k < length some.formula.rows = slice_get_within some.formula.rows k r known_k in
          some.rows_of.different j k (omega (arith, lt_j, long)) (omega (arith, lt_k, long))
          (are.different (get_or some.chosen j 0) (get_or some.chosen k 0) r (at j r known_j) (at k r known_k) (sym (own-at j lt_j) ∙ e ∙ own-at k lt_k));
    }

    none : some.formula.params ≡ []
    none = (from_known IsCube list cubes some.number some.formula some.known).none

    no_params : AreElements d some.formula.params []
    no_params = record {
      as_many = ap (λ (ps : List SortId). length ps) (sym none);
      each = λ k r known. absurd (let h : slice_get {X = SortId} [] k ≡ Some r = subst (λ (ps : List SortId). slice_get ps k ≡ Some r) none known in cc);
    }

    literals_fit : All (LiteralFits shape some.formula.rows []) some.formula.literals
    literals_fit = subst (λ (q : List SortId). All (LiteralFits shape some.formula.rows q) some.formula.literals) none (from_known (Fits shape) list fit some.number some.formula some.known).literals

    same : (l : Literal) → LiteralFits shape some.formula.rows [] l → holds d (values_at s rows chosen params) (replace (chosen_row some.chosen) l) ≡ holds d (values_at s some.formula.rows (through chosen some.chosen) []) l
    same l f =
        holds-same shape d some.formula.rows some.chosen (values_at s some.formula.rows (through chosen some.chosen) []) (values_at s rows chosen params) refl
        (λ k r here. cells-of_row s some.formula.rows (through chosen some.chosen) k r own-long here ∙ ap (λ (i : ℕ). get_or (rows_of s r) i []) (own-at k (slice_get_within some.formula.rows k r here))
        ∙ sym (cells-of_row s rows chosen (get_or some.chosen k 0) r are.as_many (at k r here))) l f

    hold : AllHold d (values_at s some.formula.rows (through chosen some.chosen) []) some.formula.literals
    hold k l lt =
        sym (same (get_or some.formula.literals k l) (literals_fit k l lt))
        ∙ subst (λ (m : Literal). IsTrue (holds d (values_at s rows chosen params) m)) (get_or-map (replace (chosen_row some.chosen)) some.formula.literals k l (replace (chosen_row some.chosen) l) lt)
        (some.literals k (replace (chosen_row some.chosen) l) (omega (arith, lt, length-map some.formula.literals (replace (chosen_row some.chosen)))))
