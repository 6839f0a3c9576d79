-- How a table of terms is made.
use Rattle.std.proofs.Common.{◌≡◌, ℕ, ◌+◌, ◌<◌, Bool, List, [], ◌∷◌, ◌++◌, length, refl, sym, ◌∙◌, ap, subst, arith, ◌⊎◌, inl, inr, ⊎_elim}
use Rattle.std.specs.Prelude.{slice_get, Some, Contains}
use Rattle.std.proofs.lemmas.Option.{none-some, slice_get_within}
use Rattle.std.proofs.lemmas.List.{length_push}
use Rattle.ras_logic.proofs.Elements.{contains-here, contains-later, contains_cases}
use Rattle.ras_logic.specs.declared.ids.SortId.{SortId}
use Rattle.ras_logic.specs.declared.ids.ConstId.{ConstId}
use Rattle.ras_logic.specs.declared.term.Base.{Base}
use Rattle.ras_logic.specs.declared.term.Base.TheVariants.{Var, Cell, Constant, Undef, Param}
use Rattle.ras_logic.specs.declared.term.Term.{Term}
use Rattle.ras_logic.specs.declared.literal.Literal.{Literal}
use Rattle.ras_logic.specs.declared.literal.Literal.TheVariants.{Equal}
use Rattle.ras_logic.specs.Schemas.{SchemaParts}
use Rattle.ras_logic.specs.Terms.{constant_term, undef_term}
use Rattle.ras_logic.specs.Clashes.{sides, IsPrefixOf, IsTerm, of_literals, a_constant, an_undef}
use Rattle.ras_refute.specs.declared.entry.Entry.{Entry}
use Rattle.ras_refute.specs.declared.entry.Entry.TheVariants.{Root, Image}
use Rattle.ras_refute.specs.declared.entry.Pair.{Pair}
use Rattle.ras_refute.specs.Tables.{terms_of, IsAt, IsTable, HasFixed, IsFixedPlace, Grows, Adds, AddsEntry, AddsTerm, AreSidesOf, AreAllSides, IsPartOf, AddsFact, AddsFacts, AddsUndefs, AddsConstants, IsTableOf}
use Rattle.ras_refute.proofs.Lists.{grows-push, pushed-at}
use Rattle.ras_refute.proofs.Entries.{adds-known, adds-none, adds-then, adds-pushed, length-terms_of, entry-at}
use Rattle.ras_logic.specs.Literals.{left_of, right_of}

-- a fact of a literal was added
pub adds-fact : (old mid new : List Entry) (left right : Term) (same : Bool) (i j : ℕ) → AddsTerm old mid left i → AddsTerm mid new right j
    → AddsFact old new (Equal left right same) (record { left = i; right = j })
adds-fact old mid new left right same i j one two = record {
  adds = adds-then (λ (p : Term). IsPrefixOf p left) (λ (p : Term). IsPrefixOf p right) (IsPartOf (Equal left right same ∷ []))
      (λ p pre. (left, contains-here left (right ∷ []), pre))
      (λ p pre. (right, contains-later left right (right ∷ []) (contains-here right []), pre)) old mid new one.adds two.adds;
  numbers = (two.adds.kept i left one.here, two.here);
}

sides-kept : (P : Term → Type 0) (old new : List Entry) → Adds P old new → (l : Literal) (pair : Pair) → AreSidesOf old l pair → AreSidesOf new l pair
sides-kept P old new added (Equal left right same) pair h = (added.kept pair.left left h.0, added.kept pair.right right h.1)

all_sides-kept : (P : Term → Type 0) (old new : List Entry) → Adds P old new → (ls : List Literal) (pairs : List Pair) → AreAllSides old ls pairs → AreAllSides new ls pairs
all_sides-kept P old new added [] [] h = h
all_sides-kept P old new added [] (x ∷ xs) h = h
all_sides-kept P old new added (l ∷ ls) [] h = h
all_sides-kept P old new added (l ∷ ls) (x ∷ xs) h = (sides-kept P old new added l x h.0, all_sides-kept P old new added ls xs h.1)

all_sides-push : (es : List Entry) (ls : List Literal) (pairs : List Pair) (l : Literal) (pair : Pair) → AreAllSides es ls pairs → AreSidesOf es l pair → AreAllSides es (ls ++ l ∷ []) (pairs ++ pair ∷ [])
all_sides-push es [] [] l pair h here = (here, h)
all_sides-push es [] (x ∷ xs) l pair h here = absurd h
all_sides-push es (y ∷ ys) [] l pair h here = absurd h
all_sides-push es (y ∷ ys) (x ∷ xs) l pair h here = (h.0, all_sides-push es ys xs l pair h.1 here)

sides-push : (ls : List Literal) (l : Literal) (t : Term) → Contains (sides ls) t ⊎ Contains (sides (l ∷ [])) t → Contains (sides (ls ++ l ∷ [])) t
sides-push [] l t (inl h) = absurd (omega (arith, h.1))
sides-push [] l t (inr h) = h
sides-push (Equal left right same ∷ ls) l t (inl h) =
    ⊎_elim (λ (e : left ≡ t). subst (λ (u : Term). Contains (left ∷ right ∷ sides (ls ++ l ∷ [])) u) e (contains-here left (right ∷ sides (ls ++ l ∷ []))))
    (λ (h2 : Contains (right ∷ sides ls) t). contains-later left t (right ∷ sides (ls ++ l ∷ []))
    (⊎_elim (λ (e : right ≡ t). subst (λ (u : Term). Contains (right ∷ sides (ls ++ l ∷ [])) u) e (contains-here right (sides (ls ++ l ∷ []))))
    (λ (h3 : Contains (sides ls) t). contains-later right t (sides (ls ++ l ∷ [])) (sides-push ls l t (inl h3)))
    (contains_cases right t (sides ls) h2)))
    (contains_cases left t (right ∷ sides ls) h)
sides-push (Equal left right same ∷ ls) l t (inr h) =
    contains-later left t (right ∷ sides (ls ++ l ∷ [])) (contains-later right t (sides (ls ++ l ∷ [])) (sides-push ls l t (inr h)))

-- a literal's fact more was added
pub adds-facts : (old mid new : List Entry) (ls more : List Literal) (pairs : List Pair) (l : Literal) (pair : Pair) → more ≡ ls ++ l ∷ [] → AddsFacts old mid ls pairs → AddsFact mid new l pair
    → AddsFacts old new more (pairs ++ pair ∷ [])
adds-facts old mid new ls more pairs l pair e one two = subst (λ (q : List Literal). AddsFacts old new q (pairs ++ pair ∷ [])) (sym e) (record {
  adds = adds-then (IsPartOf ls) (IsPartOf (l ∷ [])) (IsPartOf (ls ++ l ∷ []))
      (λ p h. (h.0, sides-push ls l h.0 (inl h.1), h.2)) (λ p h. (h.0, sides-push ls l h.0 (inr h.1), h.2)) old mid new one.adds two.adds;
  numbers = all_sides-push new ls pairs l pair (all_sides-kept (IsPartOf (l ∷ [])) mid new two.adds ls pairs one.numbers) two.numbers;
})

pub adds-no_facts : (es : List Entry) → IsTable es → AddsFacts es es [] []
adds-no_facts es table = record { adds = adds-none (IsPartOf []) es table; numbers = tt }

pub adds-fact_of : (old mid new : List Entry) (l : Literal) (i j : ℕ) → AddsTerm old mid (left_of l) i → AddsTerm mid new (right_of l) j
    → AddsFact old new l (record { left = i; right = j })
adds-fact_of old mid new (Equal left right same) i j one two = adds-fact old mid new left right same i j one two

at-nothing : (i : ℕ) (t : Term) → IsAt [] i t → ⊥
at-nothing i t at = let lt = slice_get_within (terms_of []) i t at in absurd (omega (arith, lt, length-terms_of []))

-- the empty table
pub adds-no_undefs : AddsUndefs 0 []
adds-no_undefs = record {
  long = refl;
  adds = adds-none (λ (t : Term). (s : SortId) × (s.n < 0) × (t ≡ undef_term s)) []
      (record { earlier = λ i of f h. absurd (none-some (Image of f) h); different = λ i j t a b. absurd (at-nothing i t a) });
  undefs = λ s lt. absurd (omega (arith, lt));
}

sort_cases : (a n : ℕ) → a < n + 1 → (a < n) ⊎ (a ≡ n)
sort_cases a n lt = grind arith

undef-same : (n : ℕ) (s : SortId) → undef_term (record { n = n }) ≡ undef_term s → n ≡ s.n
undef-same n s e = ap (λ (r : SortId). r.n) (go (ap (λ (u : Term). u.base) e))
  where
    go : Undef (record { n = n }) ≡ Undef s → record { n = n } ≡ s
    go h = cc

-- one sort's undef more
pub adds-undef : (n : ℕ) (es : List Entry) → AddsUndefs n es → AddsUndefs (n + 1) (es ++ Root (Undef (record { n = n })) ∷ [])
adds-undef n es before =
    let e : Entry = Root (Undef (record { n = n })) in
    let fresh : (i : ℕ) → slice_get es i ≡ Some e → ⊥ = λ i is.
    ⊎_elim (λ (h : IsAt [] i (undef_term (record { n = n }))). at-nothing i (undef_term (record { n = n })) h)
    (λ (h : (s : SortId) × (s.n < n) × (undef_term (record { n = n }) ≡ undef_term s)). absurd (omega (arith, h.1, undef-same n h.0 h.2)))
    (before.adds.only i (undef_term (record { n = n })) (entry-at es before.adds.table i e is)) in
    let more = adds-pushed es before.adds.table e tt fresh in
    record {
      long = omega (arith, length_push es e, before.long);
      adds = adds-then (λ (t : Term). (s : SortId) × (s.n < n) × (t ≡ undef_term s)) (λ (t : Term). t ≡ undef_term (record { n = n }))
          (λ (t : Term). (s : SortId) × (s.n < n + 1) × (t ≡ undef_term s))
          (λ t h. (h.0, omega (arith, h.1), h.2)) (λ t h. (record { n = n }, omega arith, h)) [] es (es ++ e ∷ []) before.adds more.adds;
      undefs = λ s lt. ⊎_elim (λ (h : s.n < n). grows-push es e (Root (Undef s)) s.n (before.undefs s h))
          (λ (h : s.n ≡ n). subst (λ (m : ℕ). slice_get (es ++ e ∷ []) m ≡ Some (Root (Undef s))) (before.long ∙ sym h)
          (pushed-at es e ∙ ap (λ (m : ℕ). Some (Root (Undef (record { n = m })))) (sym h))) (sort_cases s.n n lt);
    }

constant-same : (n : ℕ) (c : ConstId) → constant_term (record { n = n }) ≡ constant_term c → n ≡ c.n
constant-same n c e = ap (λ (r : ConstId). r.n) (go (ap (λ (u : Term). u.base) e))
  where
    go : Constant (record { n = n }) ≡ Constant c → record { n = n } ≡ c
    go h = cc

constant-no_undef : (c : ConstId) (s : SortId) → constant_term c ≡ undef_term s → ⊥
constant-no_undef c s e = go (ap (λ (u : Term). u.base) e)
  where
    go : Constant c ≡ Undef s → ⊥
    go h = cc

pub adds-no_constants : (sorts : ℕ) (es : List Entry) → AddsUndefs sorts es → AddsConstants sorts 0 es es
adds-no_constants sorts es undefs = record {
  long = omega (arith, undefs.long);
  adds = adds-none (λ (t : Term). (c : ConstId) × (c.n < 0) × (t ≡ constant_term c)) es undefs.adds.table;
  constants = λ c lt. absurd (omega (arith, lt));
}

-- one constant more
pub adds-constant : (sorts n : ℕ) (old es : List Entry) → AddsUndefs sorts old → AddsConstants sorts n old es
    → AddsConstants sorts (n + 1) old (es ++ Root (Constant (record { n = n })) ∷ [])
adds-constant sorts n old es undefs before =
    let new : ConstId = record { n = n } in
    let e : Entry = Root (Constant new) in
    let fresh : (i : ℕ) → slice_get es i ≡ Some e → ⊥ = λ i is.
    ⊎_elim
    (λ (h : IsAt old i (constant_term new)).
    ⊎_elim (λ (none : IsAt [] i (constant_term new)). at-nothing i (constant_term new) none)
    (λ (u : (s : SortId) × (s.n < sorts) × (constant_term new ≡ undef_term s)). constant-no_undef new u.0 u.2)
    (undefs.adds.only i (constant_term new) h))
    (λ (h : (c : ConstId) × (c.n < n) × (constant_term new ≡ constant_term c)). absurd (omega (arith, h.1, constant-same n h.0 h.2)))
    (before.adds.only i (constant_term new) (entry-at es before.adds.table i e is)) in
    let more = adds-pushed es before.adds.table e tt fresh in
    record {
      long = omega (arith, length_push es e, before.long);
      adds = adds-then (λ (t : Term). (c : ConstId) × (c.n < n) × (t ≡ constant_term c)) (λ (t : Term). t ≡ constant_term new)
          (λ (t : Term). (c : ConstId) × (c.n < n + 1) × (t ≡ constant_term c))
          (λ t h. (h.0, omega (arith, h.1), h.2)) (λ t h. (new, omega arith, h)) old es (es ++ e ∷ []) before.adds more.adds;
      constants = λ c lt. ⊎_elim (λ (h : c.n < n). grows-push es e (Root (Constant c)) (sorts + c.n) (before.constants c h))
          (λ (h : c.n ≡ n).
          let place : length es ≡ sorts + c.n = omega (arith, before.long, h) in
          subst (λ (m : ℕ). slice_get (es ++ e ∷ []) m ≡ Some (Root (Constant c))) place
          (pushed-at es e ∙ ap (λ (m : ℕ). Some (Root (Constant (record { n = m })))) (sym h))) (sort_cases c.n n lt);
    }

-- undefs and constants keep their numbers
pub fixed-kept : (schema : SchemaParts) (old new : List Entry) → HasFixed schema old → Grows old new → HasFixed schema new
fixed-kept schema old new fixed grows = record {
  undefs = λ s lt. grows s.n (Root (Undef s)) (fixed.undefs s lt);
  constants = λ c lt. grows (schema.sorts + c.n) (Root (Constant c)) (fixed.constants c lt);
}

-- the undefs and the constants that were put first
pub fixed-made : (schema : SchemaParts) (one two : List Entry) → AddsUndefs schema.sorts one
    → AddsConstants schema.sorts (length schema.constants) one two → HasFixed schema two
fixed-made schema one two undefs constants = record {
  undefs = λ s lt. constants.adds.grows s.n (Root (Undef s)) (undefs.undefs s lt);
  constants = constants.constants;
}

-- an undef or a constant is there already
pub adds-fixed : (schema : SchemaParts) (es : List Entry) → IsTable es → HasFixed schema es → (b : Base) (i : ℕ) → IsFixedPlace schema b i
    → AddsEntry es es (Root b) i
adds-fixed schema es table fixed (Var v) i h = absurd h
adds-fixed schema es table fixed (Cell row column) i h = absurd h
adds-fixed schema es table fixed (Constant c) i h = adds-known es table (Root (Constant c)) i (rw h.1 (fixed.constants c h.0))
adds-fixed schema es table fixed (Undef s) i h = adds-known es table (Root (Undef s)) i (rw h.1 (fixed.undefs s h.0))
adds-fixed schema es table fixed (Param p) i h = absurd h

-- the whole table
pub made-table : (schema : SchemaParts) (literals : List Literal) (one two three : List Entry) (pairs : List Pair) → AddsUndefs schema.sorts one
    → AddsConstants schema.sorts (length schema.constants) one two → AddsFacts two three literals pairs → IsTableOf schema literals (record { entries = three; sides = pairs })
made-table schema literals one two three pairs undefs constants said = record {
  table = said.adds.table;
  known = λ i t at.
      ⊎_elim
      (λ (h : IsAt two i t).
      ⊎_elim
      (λ (g : IsAt one i t).
      ⊎_elim (λ (f : IsAt [] i t). absurd (at-nothing i t f))
      (λ (f : (s : SortId) × (s.n < schema.sorts) × (t ≡ undef_term s)). subst (λ (u : Term). IsTerm schema literals u) (sym f.2) (an_undef f.0 f.1))
      (undefs.adds.only i t g))
      (λ (g : (c : ConstId) × (c.n < length schema.constants) × (t ≡ constant_term c)). subst (λ (u : Term). IsTerm schema literals u) (sym g.2) (a_constant g.0 g.1))
      (constants.adds.only i t h))
      (λ (h : IsPartOf literals t). of_literals {p = t} h.0 h.1 h.2)
      (said.adds.only i t at);
  undefs = (fixed-kept schema two three (fixed-made schema one two undefs constants) said.adds.grows).undefs;
  constants = (fixed-kept schema two three (fixed-made schema one two undefs constants) said.adds.grows).constants;
  numbers = said.numbers;
}
