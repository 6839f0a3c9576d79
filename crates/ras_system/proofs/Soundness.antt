-- The formulas of a good evidence are an invariant, for a system without relations.
use Rattle.std.proofs.Common.{◌≡◌, ℕ, zero, suc, ◌<◌, Bool, true, false, List, [], ◌∷◌, ◌++◌, map, length, get_or, refl, sym, ◌∙◌, ap, subst, arith, cond, zero-add}
use Rattle.std.specs.Prelude.{slice_get, Option, Some, None, option_map, unwrap_or, All, Contains, IsTrue, find, flat_map}
use Rattle.std.specs.List.{AllByRecursion, AllZip, enumerate_from}
use Rattle.std.specs.Option.{option_map_or}
use Rattle.std.proofs.lemmas.Option.{slice_get_within, slice_get_read, get_or_from_slice_get, slice_get-get_or}
use Rattle.std.proofs.lemmas.List.{get_or-map}
use Rattle.std.proofs.lemmas.List.FromFn.{get_or-enumerate_from, length-enumerate_from}
use Rattle.std.proofs.lemmas.List.Elements.{All-contains, All-head, All-tail, All-nil, All-cons, All-append, All-map}
use Rattle.std.proofs.lemmas.Bool.{eqb-true, eq-eqb}
use Rattle.ras_logic.specs.declared.ids.SortId.{SortId}
use Rattle.ras_logic.specs.declared.ids.ConstId.{ConstId}
use Rattle.ras_logic.specs.declared.ids.VarId.{VarId}
use Rattle.ras_logic.specs.declared.ids.RelId.{RelId}
use Rattle.ras_logic.specs.declared.raw_db.RawDb.{RawDb}
use Rattle.ras_logic.specs.declared.values.Values.{Values}
use Rattle.ras_logic.specs.declared.term.Base.{Base}
use Rattle.ras_logic.specs.declared.term.Base.TheVariants.{Var, Cell, Constant, Undef, Param}
use Rattle.ras_logic.specs.declared.term.Term.{Term}
use Rattle.ras_logic.specs.declared.literal.Literal.{Literal}
use Rattle.ras_logic.specs.declared.literal.Literal.TheVariants.{Equal}
use Rattle.ras_logic.specs.declared.problem.Problem.{Problem}
use Rattle.ras_logic.specs.Shapes.{ShapeParts}
use Rattle.ras_logic.specs.Schemas.{IsSchema, IsSort}
use Rattle.ras_logic.specs.Databases.{IsDatabase}
use Rattle.ras_logic.specs.Terms.{base_term, constant_term, undef_term, sort_of_base, sort_along, sort_of, replace_term}
use Rattle.ras_logic.specs.Formulas.{LiteralFits, Fits, IsCube, replace}
use Rattle.ras_logic.specs.Truth.{AreElements, AreValues, AllHold, holds, value, value_of_base, image_along}
use Rattle.ras_logic.specs.Refutations.{chosen_row, Closes, HoldsOfSome}
use Rattle.ras_logic.proofs.TermSorts.{and_then_through, and_then_from, sort_of-undef, sort_of-constant}
use Rattle.ras_system.specs.declared.state.State.{State}
use Rattle.ras_system.specs.declared.choice.Choice.{Choice}
use Rattle.ras_system.specs.declared.update.Target.{Target}
use Rattle.ras_system.specs.declared.update.Target.TheVariants as target
use Rattle.ras_system.specs.declared.update.Update.{Update}
use Rattle.ras_system.specs.declared.bulk.Bulk.{Bulk}
use Rattle.ras_system.specs.declared.transition.Transition.{Transition}
use Rattle.ras_logic.specs.declared.tree.Tree.{Tree}
use Rattle.ras_system.specs.States.{IsState, IsInitial, Meets, MeetsAny, initial_value, values_at}
use Rattle.ras_system.specs.Steps.{IsStep, StepBy, term_for_var, is_var, written}
use Rattle.ras_system.specs.Systems.{SystemParts, IsSystem, IsTransition, UpdateFits, target_term}
use Rattle.ras_system.specs.Invariants.{IsInvariant}
use Rattle.ras_system.specs.Preimages.{base_before, preimage_problem, preimage}
use Rattle.ras_system.specs.Obligations.{initial_vars, at_start, Obligation, with_formulas, obligations}
use Rattle.ras_system.specs.Evidence.{IsGoodSafe}
use Rattle.ras_logic.proofs.Clashes.{from_known}
use Rattle.ras_logic.proofs.Closing.{closed-holds, replaced-sort, replaced-value}

-- lists

split : {A : Type 0} (P : A → Type 0) (xs ys : List A) → AllByRecursion P (xs ++ ys) → AllByRecursion P xs × AllByRecursion P ys
split P [] ys h = (tt, h)
split P (x ∷ xs) ys h = let r = split P xs ys h.1 in ((h.0, r.0), r.1)

of_map : {A B : Type 0} (P : B → Type 0) (f : A → B) (xs : List A) → AllByRecursion P (map f xs) → AllByRecursion (λ x. P (f x)) xs
of_map P f [] h = tt
of_map P f (x ∷ xs) h = (h.0, of_map P f xs h.1)

of_flat_map : {A B : Type 0} (P : B → Type 0) (f : A → List B) (xs : List A) → AllByRecursion P (flat_map f xs) → AllByRecursion (λ x. AllByRecursion P (f x)) xs
of_flat_map P f [] h = tt
of_flat_map P f (x ∷ xs) h = let r = split P (f x) (flat_map f xs) h in (r.0, of_flat_map P f xs r.1)

at_known : {A : Type 0} (P : A → Type 0) (xs : List A) → AllByRecursion P xs → (k : ℕ) (x : A) → slice_get xs k ≡ Some x → P x
at_known P [] h k x known = absurd (cc)
at_known P (y ∷ xs) h zero x known = let e : y ≡ x = cc in subst P e h.0
at_known P (y ∷ xs) h (suc k) x known = at_known P xs h.1 k x known

-- a list all of whose elements are absurd
none_below : {A : Type 0} (n : A → ℕ) (xs : List A) → All (λ x. n x < 0) xs → xs ≡ []
none_below n [] h = refl
none_below n (x ∷ xs) h = absurd (omega (arith, All-head (λ y. n y < 0) x xs h))

pub find-element : {A : Type 0} (p : A → Bool) (xs : List A) (x : A) → find p xs ≡ Some x → Contains xs x × (p x ≡ true)
find-element p [] x h = absurd (cc)
find-element p (y ∷ xs) x h = go (p y) refl (find-element p xs x) h
  where
    go : (b : Bool) → p y ≡ b → (find p xs ≡ Some x → Contains xs x × (p x ≡ true)) → cond b (Some y) (find p xs) ≡ Some x → Contains (y ∷ xs) x × (p x ≡ true)
    go true e later k = let same : y ≡ x = cc in ((0, omega arith, same), rw (← same) e)
    go false e later k = let r = later k in ((suc r.0.0, omega (arith, r.0.1), r.0.2), r.1)

-- each element with its place
pub All-enumerate : {A : Type 0} (P : ℕ × A → Type 0) (xs : List A) → ((k : ℕ) (x : A) → slice_get xs k ≡ Some x → P (k, x)) → All P (enumerate_from 0 xs)
All-enumerate P xs h k d lt =
    let within : k < length xs = rw (length-enumerate_from 0 xs) at lt in
    rw (get_or-enumerate_from 0 xs k d within, zero-add) (h k (get_or xs k d.1) (slice_get-get_or xs k d.1 within))

-- for each obligation there is a tree
closed_each : {A B : Type 0} (R : A → B → Type 0) (xs : List A) (ys : List B) → AllZip R xs ys → AllByRecursion (λ x. (y : B) × R x y) xs
closed_each R [] ys z = tt
closed_each R (x ∷ xs) [] z = elim z [ ]
closed_each R (x ∷ xs) (y ∷ ys) z = ((y, z.0), closed_each R xs ys z.1)

-- A formula without rows and parameters says the same of two values, where its bases, replaced, have the same values.
module _ (shape : ShapeParts) (d : RawDb) (v w : Values) (f : Base → Term)
    (same : (b : Base) (s : SortId) → sort_of_base shape [] [] b ≡ Some s → value d v (f b) ≡ value_of_base d w b) where
  same-term : (t : Term) (s : SortId) → sort_of shape [] [] t ≡ Some s → value d v (replace_term f t) ≡ value d w t
  same-term t s h =
      let u = and_then_through (sort_along shape.schema t.path) (sort_of_base shape [] [] t.base) s h in
      replaced-value d v f t ∙ ap (image_along d t.path) (same t.base u.mid u.first)

  same-literal : (l : Literal) → LiteralFits shape [] [] l → holds d v (replace f l) ≡ holds d w l
  same-literal (Equal left right true) h = rw (same-term left h.0 h.1, same-term right h.0 h.2)
  same-literal (Equal left right false) h = rw (same-term left h.0 h.1, same-term right h.0 h.2)

  to-literals : (ls : List Literal) → All (LiteralFits shape [] []) ls → AllHold d v (map (replace f) ls) → AllHold d w ls
  to-literals [] lf h = All-nil (λ (l : Literal). IsTrue (holds d w l))
  to-literals (l ∷ ls) lf h =
      let here : IsTrue (holds d v (replace f l)) = All-head (λ (q : Literal). IsTrue (holds d v q)) (replace f l) (map (replace f) ls) h in
      let fits : LiteralFits shape [] [] l = All-head (LiteralFits shape [] []) l ls lf in
      All-cons (λ (q : Literal). IsTrue (holds d w q)) l ls (sym (same-literal l fits) ∙ here)
      (to-literals ls (All-tail (LiteralFits shape [] []) l ls lf) (All-tail (λ (q : Literal). IsTrue (holds d v q)) (replace f l) (map (replace f) ls) h))

  from-literals : (ls : List Literal) → All (LiteralFits shape [] []) ls → AllHold d w ls → AllHold d v (map (replace f) ls)
  from-literals [] lf h = All-nil (λ (l : Literal). IsTrue (holds d v l))
  from-literals (l ∷ ls) lf h =
      let here : IsTrue (holds d w l) = All-head (λ (q : Literal). IsTrue (holds d w q)) l ls h in
      let fits : LiteralFits shape [] [] l = All-head (LiteralFits shape [] []) l ls lf in
      All-cons (λ (q : Literal). IsTrue (holds d v q)) (replace f l) (map (replace f) ls) (same-literal l fits ∙ here)
      (from-literals ls (All-tail (LiteralFits shape [] []) l ls lf) (All-tail (λ (q : Literal). IsTrue (holds d w q)) l ls h))

-- the values of a state without relations
plain_values : State → List ℕ → Values
plain_values s params = record { vars = s.vars; rows = []; params = params }

plain_values-values : (shape : ShapeParts) (d : RawDb) (s : State) (sorts : List SortId) (params : List ℕ) → IsState shape d s → AreElements d sorts params
    → AreValues shape d [] sorts (plain_values s params)
unfolding plain_values
plain_values-values shape d s sorts params st e =
    record { vars = st.vars; as_many_rows = refl; each_row = λ k r known. absurd (cc); param_values = e }

-- a formula without rows and parameters
plain : List Literal → Problem
plain literals = record { rows = []; params = []; literals = literals }

plain-same : (f : Problem) → f.rows ≡ [] → f.params ≡ [] → plain f.literals ≡ f
unfolding plain
plain-same f e q = sym (ap (λ (r : List RelId). record { rows = r; params = f.params; literals = f.literals }) e ∙ ap (λ (p : List SortId). record { rows = []; params = p; literals = f.literals }) q)

module _ (shape : ShapeParts) (d : RawDb) (s : State) (params : List ℕ) where
  chosen-same : (chosen : List ℕ) (b : Base) (u : SortId) → sort_of_base shape [] [] b ≡ Some u
      → value d (plain_values s params) (chosen_row chosen b) ≡ value_of_base d (values_at s [] [] []) b
  unfolding plain_values
  chosen-same chosen (Var x) u h = refl
  chosen-same chosen (Cell row column) u h = absurd (cc)
  chosen-same chosen (Constant c) u h = refl
  chosen-same chosen (Undef q) u h = refl
  chosen-same chosen (Param p) u h = absurd (cc)

  meets-plain : (chosen : List ℕ) (literals : List Literal) → All (LiteralFits shape [] []) literals
      → AllHold d (plain_values s params) (map (replace (chosen_row chosen)) literals) → Meets d s (plain literals)
  unfolding plain
  meets-plain chosen literals fit h = (
    [],
    [],
    record { as_many = refl; each = λ k r known. absurd (cc); different = λ j k r one other e. absurd (cc) },
    record { as_many = refl; each = λ k r known. absurd (cc) },
    to-literals shape d (plain_values s params) (values_at s [] [] []) (chosen_row chosen) (chosen-same chosen) literals fit h,
  )

  plain-literals : (f : Problem) → Fits shape f → f.rows ≡ [] → f.params ≡ [] → All (LiteralFits shape [] []) f.literals
  plain-literals f fit e q = subst (λ (p : List SortId). All (LiteralFits shape [] p) f.literals) q (subst (λ (r : List RelId). All (LiteralFits shape r f.params) f.literals) e fit.literals)

  -- what holds of no rows is met
  met : (formulas : List Problem) → All (Fits shape) formulas → All (λ (p : Problem). (p.rows ≡ []) × (p.params ≡ [])) formulas
      → HoldsOfSome d (plain_values s params) [] formulas → MeetsAny d s formulas
  met formulas fit no_rows h =
      let f : Problem = h.formula in
      let e = from_known (λ (p : Problem). (p.rows ≡ []) × (p.params ≡ [])) formulas no_rows h.number f h.known in
      let lits = plain-literals f (from_known (Fits shape) formulas fit h.number f h.known) e.0 e.1 in (
        h.number,
        f,
        slice_get_within formulas h.number f h.known,
        get_or_from_slice_get formulas h.number f f h.known,
        subst (Meets d s) (plain-same f e.0 e.1) (meets-plain h.chosen f.literals lits h.literals),
      )

-- what a place has after it was written
pub written-at : (d : RawDb) (v : Values) (term_for : ℕ → Option Term) (old : List ℕ) (k : ℕ) → k < length old
    → get_or (written d v term_for old) k 0 ≡ option_map_or (value d v) (term_for k) (get_or old k 0)
written-at d v term_for old k lt =
    let within : k < length (enumerate_from 0 old) = rw (length-enumerate_from 0 old) lt in
    get_or-map (λ (p : ℕ × ℕ). option_map_or (value d v) (term_for p.0) p.1) (enumerate_from 0 old) k (0, 0) 0 within
    ∙ rw (get_or-enumerate_from 0 old k (0, 0) lt, zero-add)

module _ (shape : ShapeParts) (d : RawDb) (params : List SortId) (updates : List Update) (fits : All (UpdateFits shape [] params) updates)
    (old : State) (values : List ℕ) (vars : length old.vars ≡ length shape.vars) where
  -- the transition as far as replaced bases read it
  t0 : List (List Literal) → Transition
  t0 guard = record { rows = []; params = params; guard = guard; updates = updates; bulk = [] }

  assigned : (x : VarId) (o : Option Term) → value d (plain_values old values) (unwrap_or o (base_term (Var x))) ≡ option_map_or (value d (plain_values old values)) o (get_or old.vars x.n 0)
  unfolding plain_values
  assigned x None = refl
  assigned x (Some u) = refl

  before-same : (guard : List (List Literal)) (w : Values) → w.vars ≡ written d (plain_values old values) (term_for_var updates) old.vars
      → (b : Base) (s : SortId) → sort_of_base shape [] [] b ≡ Some s → value d (plain_values old values) (base_before (t0 guard) [] b) ≡ value_of_base d w b
  unfolding t0
  before-same guard w e (Var x) s h =
      let lt : x.n < length old.vars = rw vars (slice_get_within shape.vars x.n s h) in
      assigned x (term_for_var updates x.n) ∙ sym (written-at d (plain_values old values) (term_for_var updates) old.vars x.n lt) ∙ ap (λ (l : List ℕ). get_or l x.n 0) (sym e)
  before-same guard w e (Cell row column) s h = absurd (cc)
  before-same guard w e (Constant c) s h = refl
  before-same guard w e (Undef q) s h = refl
  before-same guard w e (Param p) s h = absurd (cc)

  target-sort : (x : VarId) (t : Target) (s u : SortId) → is_var x.n t ≡ true → slice_get shape.vars x.n ≡ Some s → sort_of shape [] params (target_term t) ≡ Some u → u ≡ s
  target-sort x (target.Var y) s u is h k =
      let e : y.n ≡ x.n = eqb-true y.n x.n is in
      let t = and_then_through (sort_along shape.schema []) (slice_get shape.vars y.n) u k in
      let first : slice_get shape.vars y.n ≡ Some t.mid = t.first in
      let there : slice_get shape.vars x.n ≡ Some t.mid = subst (λ (n : ℕ). slice_get shape.vars n ≡ Some t.mid) e first in cc
  target-sort x (target.Cell row column) s u is h k = absurd (cc)

  assigned-sort : (x : VarId) (s : SortId) → slice_get shape.vars x.n ≡ Some s → (o : Option Update) → find (λ (u : Update). is_var x.n u.target) updates ≡ o
      → sort_of shape [] params (unwrap_or (option_map (λ (u : Update). u.term) o) (base_term (Var x))) ≡ Some s
  assigned-sort x s h None e = rw h
  assigned-sort x s h (Some u) e =
      let f = find-element (λ (u : Update). is_var x.n u.target) updates u e in
      let g = All-contains (UpdateFits shape [] params) updates u fits f.0 in
      let same : g.0 ≡ s = target-sort x u.target s g.0 f.1 h g.1 in
      subst (λ (q : SortId). sort_of shape [] params u.term ≡ Some q) same g.2

  before-sort : (guard : List (List Literal)) (b : Base) (s : SortId) → sort_of_base shape [] [] b ≡ Some s → sort_of shape [] params (base_before (t0 guard) [] b) ≡ Some s
  unfolding t0
  before-sort guard (Var x) s h = assigned-sort x s h (find (λ (u : Update). is_var x.n u.target) updates) refl
  before-sort guard (Cell row column) s h = absurd (cc)
  before-sort guard (Constant c) s h = rw h
  before-sort guard (Undef q) s h = rw h
  before-sort guard (Param p) s h = absurd (cc)

  before-term : (guard : List (List Literal)) (t : Term) (s : SortId) → sort_of shape [] [] t ≡ Some s → sort_of shape [] params (replace_term (base_before (t0 guard) []) t) ≡ Some s
  before-term guard t s h =
      let u = and_then_through (sort_along shape.schema t.path) (sort_of_base shape [] [] t.base) s h in
      replaced-sort shape [] params (base_before (t0 guard) []) t
      ∙ and_then_from (sort_along shape.schema t.path) (sort_of shape [] params (base_before (t0 guard) [] t.base)) u.mid s (before-sort guard t.base u.mid u.first) u.second

  before-fits : (guard : List (List Literal)) (ls : List Literal) → All (LiteralFits shape [] []) ls → All (LiteralFits shape [] params) (map (replace (base_before (t0 guard) [])) ls)
  before-fits guard [] h = All-nil (LiteralFits shape [] params)
  before-fits guard (Equal left right same ∷ ls) h =
      let here = All-head (LiteralFits shape [] []) (Equal left right same) ls h in
      All-cons (LiteralFits shape [] params) (replace (base_before (t0 guard) []) (Equal left right same)) (map (replace (base_before (t0 guard) [])) ls)
      (here.0, before-term guard left here.0 here.1, before-term guard right here.0 here.2)
      (before-fits guard ls (All-tail (LiteralFits shape [] []) (Equal left right same) ls h))

-- a step of a transition without rows into a formula without rows comes from a state that satisfies a problem of the preimage
module _ (system : SystemParts) (d : RawDb) (db : IsDatabase system.shape.schema d) (ok : IsSchema system.shape.schema)
    (formulas : List Problem) (fit : All (Fits system.shape) formulas) (cubes : All IsCube formulas)
    (params : List SortId) (guard : List (List Literal)) (updates : List Update) where
  t1 : Transition
  t1 = record { rows = []; params = params; guard = guard; updates = updates; bulk = [] }

  step-holds : IsTransition system.shape t1 → (old : State) (c : Choice) (new : State) → IsState system.shape d old → StepBy d t1 old c new
      → (literals : List Literal) → All (LiteralFits system.shape [] []) literals → Meets d new (plain literals)
      → AllByRecursion (λ (p : Problem). (t : Tree) × Closes system.shape.schema p formulas t.nodes) (preimage t1 (plain literals))
      → HoldsOfSome d (plain_values old c.values) [] formulas
  unfolding t1 plain t0 plain_values
  step-holds good old c new st step literals lits m closed =
      let v : Values = plain_values old c.values in
      let as_before : length old.vars ≡ length system.shape.vars = st.vars.as_many in
      let k = step.guard in
      let disjunct : List Literal = k.1 in
      let here : slice_get guard k.0 ≡ Some disjunct = slice_get_read guard (length guard) k.0 disjunct refl k.2 (sym k.3) in
      let f : Base → Term = base_before t1 [] in
      let Closed : Problem → Type 0 = λ p. (t : Tree) × Closes system.shape.schema p formulas t.nodes in
      let problem : List Literal → Problem = λ dis. preimage_problem t1 (plain literals) [] dis [] in
      let each = split Closed (flat_map (λ (dis : List Literal). problem dis ∷ []) guard) [] closed in
      let of_guard = of_flat_map Closed (λ (dis : List Literal). problem dis ∷ []) guard each.0 in
      let mine = at_known (λ (dis : List Literal). AllByRecursion Closed (problem dis ∷ [])) guard of_guard k.0 disjunct here in
      let Fit : Literal → Type 0 = LiteralFits system.shape [] params in
      let guard_fits : All Fit disjunct = from_known (All Fit) guard good.guard k.0 disjunct here in
      let w : Values = values_at new [] m.0 m.1 in
      let w_is : w.vars ≡ written d v (term_for_var updates) old.vars = ap (λ (s : State). s.vars) step.after in
      let Holds : Literal → Type 0 = λ l. IsTrue (holds d v l) in
      let after_hold : AllHold d v (map (replace f) literals) =
      from-literals system.shape d v w f (before-same system.shape d params updates good.updates old c.values as_before guard w w_is) literals lits m.4 in
      closed-holds system.shape d db ok [] params v (plain_values-values system.shape d old params c.values st step.params) formulas fit cubes
      (problem disjunct) mine.0.0.nodes refl mine.0.1
      (All-append Fit (disjunct ++ []) (map (replace f) literals) (All-append Fit disjunct [] guard_fits (All-nil Fit))
      (before-fits system.shape d params updates good.updates old c.values as_before guard literals lits))
      (All-append Holds (disjunct ++ []) (map (replace f) literals) (All-append Holds disjunct [] k.4 (All-nil Holds)) after_hold)

-- the formulas at the start
module _ (system : SystemParts) (good : IsSystem system) (d : RawDb) (db : IsDatabase system.shape.schema d) (s : State) (init : IsInitial system d s) (params : List ℕ) where
  start_fact : ℕ × Option ConstId → Literal
  start_fact p = Equal (base_term (Var (record { n = p.0 }))) (option_map_or constant_term p.1 (undef_term (get_or system.shape.vars p.0 (record { n = 0 })))) true

  start-fits : (k : ℕ) (c : Option ConstId) → slice_get system.initial k ≡ Some c → LiteralFits system.shape [] [] (start_fact (k, c))
  unfolding start_fact
  start-fits k c known =
      let u : SortId = get_or system.shape.vars k (record { n = 0 }) in
      let lt : k < length system.shape.vars = rw (← good.initial_for_each) (slice_get_within system.initial k c known) in
      let var : slice_get system.shape.vars k ≡ Some u = slice_get-get_or system.shape.vars k (record { n = 0 }) lt in
      (u, rw var, right c known u var)
    where
      right : (c : Option ConstId) → slice_get system.initial k ≡ Some c → (u : SortId) → slice_get system.shape.vars k ≡ Some u
          → sort_of system.shape [] [] (option_map_or constant_term c (undef_term u)) ≡ Some u
      right None known u var = sort_of-undef system.shape [] [] u (from_known (IsSort system.shape.schema.sorts) system.shape.vars good.shape.vars k u var)
      right (Some c) known u var = sort_of-constant system.shape [] [] c u (good.initial_sorts k c u known var)

  start-holds : (k : ℕ) (c : Option ConstId) → slice_get system.initial k ≡ Some c → IsTrue (holds d (plain_values s params) (start_fact (k, c)))
  unfolding start_fact plain_values
  start-holds k c known = eq-eqb (get_or s.vars k 0) _ (init.vars k c known ∙ right c)
    where
      right : (c : Option ConstId) → initial_value d c ≡ value d (record { vars = s.vars; rows = []; params = params }) (option_map_or constant_term c (undef_term (get_or system.shape.vars k (record { n = 0 }))))
      right None = refl
      right (Some c) = refl

  initial-none : AreElements d [] params → (literals : List Literal) → All (LiteralFits system.shape [] []) literals → AllHold d (plain_values s params) literals
      → (t : Tree) → Closes system.shape.schema (at_start system (plain literals)) [] t.nodes → ⊥
  unfolding plain start_fact
  initial-none els literals fits hold t closed =
      let Fit : Literal → Type 0 = LiteralFits system.shape [] [] in
      let Holds : Literal → Type 0 = λ l. IsTrue (holds d (plain_values s params) l) in
      let h = closed-holds system.shape d db good.shape.schema [] [] (plain_values s params) (plain_values-values system.shape d s [] params init.state els)
      [] (All-nil (Fits system.shape)) (All-nil IsCube)
      (at_start system (plain literals)) t.nodes refl closed
      (All-append Fit (literals ++ initial_vars system) [] (All-append Fit literals (initial_vars system) fits
      (All-map Fit start_fact (enumerate_from 0 system.initial) (All-enumerate (λ p. Fit (start_fact p)) system.initial start-fits))) (All-nil Fit))
      (All-append Holds (literals ++ initial_vars system) [] (All-append Holds literals (initial_vars system) hold
      (All-map Holds start_fact (enumerate_from 0 system.initial) (All-enumerate (λ p. Holds (start_fact p)) system.initial start-holds))) (All-nil Holds)) in
      let known : slice_get [] h.number ≡ Some h.formula = h.known in absurd (cc)

-- a transition without rows and bulk cases
plain-transition : (t : Transition) → t.rows ≡ [] → t.bulk ≡ [] → record { rows = []; params = t.params; guard = t.guard; updates = t.updates; bulk = [] } ≡ t
plain-transition t e q = sym
    (ap (λ (r : List RelId). record { rows = r; params = t.params; guard = t.guard; updates = t.updates; bulk = t.bulk }) e
    ∙ ap (λ (b : List Bulk). record { rows = []; params = t.params; guard = t.guard; updates = t.updates; bulk = b }) q)

module _ (system : SystemParts) (good : IsSystem system) (no_relations : system.shape.relations ≡ [])
    (formulas : List Problem) (fit : All (Fits system.shape) formulas) (cubes : All IsCube formulas) where
  no_rows : (p : Problem) → Fits system.shape p → p.rows ≡ []
  no_rows p f = none_below (λ (r : RelId). r.n) p.rows (λ k d lt. let b = f.rows k d lt in rw no_relations at b)

  plain_formulas : All (λ (p : Problem). (p.rows ≡ []) × (p.params ≡ [])) formulas
  plain_formulas k d lt = (no_rows (get_or formulas k d) (fit k d lt), (cubes k d lt).none)

  Closed : List Problem → Problem → Type 0
  Closed by p = (t : Tree) × Closes system.shape.schema p by t.nodes

  start-apart : (d : RawDb) (s : State) → IsDatabase system.shape.schema d → IsInitial system d s → (literals : List Literal) → All (LiteralFits system.shape [] []) literals
      → Closed [] (at_start system (plain literals)) → Meets d s (plain literals) → ⊥
  unfolding Closed plain plain_values
  start-apart d s db init literals lits tree m = initial-none system good d db s init m.1 m.3 literals lits m.4 tree.0 tree.1

  initial-apart : AllByRecursion (λ (f : Problem). Closed [] (at_start system f)) formulas
      → (d : RawDb) (s : State) → IsDatabase system.shape.schema d → IsInitial system d s → MeetsAny d s formulas → ⊥
  initial-apart closed d s db init m =
      let f : Problem = m.1 in
      let known : slice_get formulas m.0 ≡ Some f = slice_get_read formulas (length formulas) m.0 f refl m.2 (sym m.3) in
      let here = from_known (Fits system.shape) formulas fit m.0 f known in
      let e = from_known (λ (p : Problem). (p.rows ≡ []) × (p.params ≡ [])) formulas plain_formulas m.0 f known in
      let same : f ≡ plain f.literals = sym (plain-same f e.0 e.1) in
      start-apart d s db init f.literals (plain-literals system.shape d s [] f here e.0 e.1)
      (subst (λ (p : Problem). Closed [] (at_start system p)) same (at_known (λ (p : Problem). Closed [] (at_start system p)) formulas closed m.0 f known))
      (subst (Meets d s) same m.4)

  goal-kept : (d : RawDb) (s : State) → IsDatabase system.shape.schema d → IsState system.shape d s → (literals : List Literal) → All (LiteralFits system.shape [] []) literals
      → Closed formulas (plain literals) → Meets d s (plain literals) → MeetsAny d s formulas
  unfolding Closed plain plain_values
  goal-kept d s db st literals lits tree m =
      met system.shape d s m.1 formulas fit plain_formulas
      (closed-holds system.shape d db good.shape.schema [] [] (plain_values s m.1) (plain_values-values system.shape d s [] m.1 st m.3) formulas fit cubes
      (plain literals) tree.0.nodes refl tree.1 lits m.4)

  goals-kept : AllByRecursion (Closed formulas) system.goals
      → (d : RawDb) (s : State) → IsDatabase system.shape.schema d → IsState system.shape d s → MeetsAny d s system.goals → MeetsAny d s formulas
  goals-kept closed d s db st m =
      let g : Problem = m.1 in
      let known : slice_get system.goals m.0 ≡ Some g = slice_get_read system.goals (length system.goals) m.0 g refl m.2 (sym m.3) in
      let here = from_known (Fits system.shape) system.goals good.goals m.0 g known in
      let e : g.rows ≡ [] = no_rows g here in
      let q : g.params ≡ [] = (from_known IsCube system.goals good.cubes m.0 g known).none in
      let same : g ≡ plain g.literals = sym (plain-same g e q) in
      goal-kept d s db st g.literals (plain-literals system.shape d s [] g here e q)
      (subst (Closed formulas) same (at_known (Closed formulas) system.goals closed m.0 g known)) (subst (Meets d s) same m.4)

  step-kept : (t : Transition) → IsTransition system.shape t → (f : Problem) → Fits system.shape f → f.params ≡ [] → AllByRecursion (Closed formulas) (preimage t f)
      → (d : RawDb) (old : State) (c : Choice) (new : State) → IsDatabase system.shape.schema d → IsState system.shape d old → StepBy d t old c new
      → Meets d new f → MeetsAny d old formulas
  unfolding Closed t1
  step-kept t ok f here q closed d old c new db st step m =
      let rows : t.rows ≡ [] = none_below (λ (r : RelId). r.n) t.rows (λ k e lt. let b = ok.rows k e lt in rw no_relations at b) in
      let bulk : t.bulk ≡ [] = none_below (λ (b : Bulk). b.relation.n) t.bulk (λ k e lt. let b = (ok.bulk k e lt).relation in rw no_relations at b) in
      let same : t ≡ record { rows = []; params = t.params; guard = t.guard; updates = t.updates; bulk = [] } = sym (plain-transition t rows bulk) in
      let e : f.rows ≡ [] = no_rows f here in
      let as_plain : f ≡ plain f.literals = sym (plain-same f e q) in
      met system.shape d old c.values formulas fit plain_formulas
      (step-holds system d db good.shape.schema formulas fit cubes t.params t.guard t.updates
      (subst (IsTransition system.shape) same ok) old c new st (subst (λ (u : Transition). StepBy d u old c new) same step)
      f.literals (plain-literals system.shape d old [] f here e q) (subst (Meets d new) as_plain m)
      (subst (λ (p : Problem). AllByRecursion (Closed formulas) (preimage (record { rows = []; params = t.params; guard = t.guard; updates = t.updates; bulk = [] }) p)) as_plain
      (subst (λ (u : Transition). AllByRecursion (Closed formulas) (preimage u f)) same closed)))

  steps-kept : AllByRecursion (λ (f : Problem). AllByRecursion (λ (t : Transition). AllByRecursion (Closed formulas) (preimage t f)) system.transitions) formulas
      → (d : RawDb) (s : State) (c : Choice) (next : State) → IsDatabase system.shape.schema d → IsState system.shape d s → IsStep system d s c next
      → MeetsAny d next formulas → MeetsAny d s formulas
  steps-kept closed d s c next db st step m =
      let f : Problem = m.1 in
      let known : slice_get formulas m.0 ≡ Some f = slice_get_read formulas (length formulas) m.0 f refl m.2 (sym m.3) in
      let per = at_known (λ (g : Problem). AllByRecursion (λ (t : Transition). AllByRecursion (Closed formulas) (preimage t g)) system.transitions) formulas closed m.0 f known in
      step-kept step.0 (from_known (IsTransition system.shape) system.transitions good.transitions c.transition step.0 step.1)
      f (from_known (Fits system.shape) formulas fit m.0 f known) (from_known IsCube formulas cubes m.0 f known).none
      (at_known (λ (t : Transition). AllByRecursion (Closed formulas) (preimage t f)) system.transitions per c.transition step.0 step.1)
      d s c next db st step.2 m.4

-- a good evidence of a system without relations has an invariant
pub IsGoodSafe-invariant : (system : SystemParts) (formulas : List Problem) (trees : List Tree) → IsSystem system → system.shape.relations ≡ []
    → IsGoodSafe system formulas trees → IsInvariant system formulas
unfolding Closed
IsGoodSafe-invariant system formulas trees good none evidence =
    let Has : Obligation → Type 0 = λ o. (t : Tree) × Closes system.shape.schema o.premise o.formulas t.nodes in
    let By : List Problem → Problem → Type 0 = λ by p. (t : Tree) × Closes system.shape.schema p by t.nodes in
    let all = closed_each (λ (o : Obligation) (t : Tree). Closes system.shape.schema o.premise o.formulas t.nodes) (obligations system formulas) trees evidence.closed in
    let pres : List Problem = flat_map (λ (f : Problem). flat_map (λ (t : Transition). preimage t f) system.transitions) formulas in
    let parts = split Has (map (λ (f : Problem). with_formulas [] (at_start system f)) formulas ++ map (with_formulas formulas) system.goals) (map (with_formulas formulas) pres) all in
    let first = split Has (map (λ (f : Problem). with_formulas [] (at_start system f)) formulas) (map (with_formulas formulas) system.goals) parts.0 in
    let starts = of_map Has (λ (f : Problem). with_formulas [] (at_start system f)) formulas first.0 in
    let goals = of_map Has (with_formulas formulas) system.goals first.1 in
    let each = of_flat_map (By formulas) (λ (f : Problem). flat_map (λ (t : Transition). preimage t f) system.transitions) formulas (of_map Has (with_formulas formulas) pres parts.1) in
    record {
      initial = initial-apart system good none formulas evidence.fit evidence.cubes starts;
      goals = goals-kept system good none formulas evidence.fit evidence.cubes goals;
      steps = steps-kept system good none formulas evidence.fit evidence.cubes (each_pre system formulas formulas each);
    }
  where
    each_pre : (system : SystemParts) (by formulas : List Problem)
        → AllByRecursion (λ (f : Problem). AllByRecursion (λ (p : Problem). (t : Tree) × Closes system.shape.schema p by t.nodes) (flat_map (λ (t : Transition). preimage t f) system.transitions)) formulas
        → AllByRecursion (λ (f : Problem). AllByRecursion (λ (t : Transition). AllByRecursion (λ (p : Problem). (u : Tree) × Closes system.shape.schema p by u.nodes) (preimage t f)) system.transitions) formulas
    each_pre system by [] h = tt
    each_pre system by (f ∷ fs) h =
        (of_flat_map (λ (p : Problem). (t : Tree) × Closes system.shape.schema p by t.nodes) (λ (t : Transition). preimage t f) system.transitions h.0, each_pre system by fs h.1)
