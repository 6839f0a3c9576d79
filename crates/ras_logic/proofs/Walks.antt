-- Functions that lead from a sort to a sort, and cycles.
use Rattle.std.proofs.Common.{◌≡◌, ℕ, zero, suc, ◌+◌, ◌<◌, ◌≤◌, Bool, true, false, List, [], ◌∷◌, ◌++◌, length, take, get_or, nat_eq, refl, sym, ◌∙◌, ap, subst, arith, ⊎_elim, inl, inr, eq-eqb}
use Rattle.std.specs.Prelude.{◌⊎◌, ◌↔◌, ◌||◌, ◌&&◌, Option, Some, None, slice_get, All, Contains}
use Rattle.std.specs.List.{list_any}
use Rattle.std.proofs.lemmas.Bool.{cases_lt, and_parts, and_from, eqb-true}
use Rattle.std.proofs.lemmas.List.{take_all}
use Rattle.std.proofs.lemmas.List.Folds.{Any-from_list_any}
use Rattle.std.proofs.lemmas.Option.{slice_get_within, slice_get-get_or, get_or_from_slice_get}
use Rattle.std.proofs.lemmas.List.Elements.{All-head, All-tail, All-cons, All-nil, All-take}
use Rattle.ras_logic.specs.declared.ids.SortId.{SortId}
use Rattle.ras_logic.specs.declared.function.FunDecl.{FunDecl}
use Rattle.ras_logic.specs.Schemas.{HasSorts, IsLinked, IsChain, IsAcyclic}
use Rattle.ras_logic.specs.SchemaFaults.{end_of, HasCycle, IsFirstCycle}
use Rattle.ras_logic.specs.Leading.{leads}
use Rattle.ras_logic.proofs.Rounds.{HasLongChain-cycle, acyclic-no_cycle}
use Rattle.ras_logic.proofs.ByPlace.{contains-at, at_contains, take_at, at_take, one_value, no_true, not_true, or_first, or_second, any_at}

-- linked functions from a sort to a sort
abbrev pub Walk : List FunDecl → List FunDecl → SortId → SortId → Type 0
Walk functions [] a b = a ≡ b
Walk functions (d ∷ ds) a b = Contains functions d × (d.source ≡ a) × Walk functions ds d.target b

pub record IsWalked (functions : List FunDecl) (d : FunDecl) (ds : List FunDecl) (b : SortId) : Type 0 where
  pub linked : IsLinked (d ∷ ds)
  pub known : All (Contains functions) ds
  pub ends : end_of d ds ≡ b

pub walked : (functions : List FunDecl) (d : FunDecl) (ds : List FunDecl) (b : SortId) → Walk functions ds d.target b → IsWalked functions d ds b
walked functions d [] b w = record { linked = tt; known = All-nil (Contains functions); ends = w }
walked functions d (e ∷ ds) b w =
    let rest = walked functions e ds b w.2 in
    record { linked = (sym w.1, rest.linked); known = All-cons (Contains functions) e ds w.0 rest.known; ends = rest.ends }

pub acyclic_from : (sorts : ℕ) (functions : List FunDecl) → All (HasSorts sorts) functions → (HasCycle functions → ⊥) → IsAcyclic sorts functions
acyclic_from sorts functions good none f fs chain =
    ⊎_elim (λ lt. lt) (λ long. absurd (none (HasLongChain-cycle sorts functions good (f, fs, chain, long)))) (cases_lt (length (f ∷ fs)) sorts)

-- linked functions one after the other
walk-append : (functions ds es : List FunDecl) (a b c : SortId) → Walk functions ds a b → Walk functions es b c → Walk functions (ds ++ es) a c
walk-append functions [] es a b c w v = subst (λ (s : SortId). Walk functions es s c) (sym w) v
walk-append functions (d ∷ ds) es a b c w v = (w.0, w.1, walk-append functions ds es d.target b c w.2 v)

-- a chain that ends at a sort
chain-walk : (functions : List FunDecl) (f : FunDecl) (fs : List FunDecl) (b : SortId) → IsChain functions (f ∷ fs) → end_of f fs ≡ b → Walk functions (f ∷ fs) f.source b
chain-walk functions f [] b c e = (All-head (Contains functions) f [] c.known, refl, e)
chain-walk functions f (g ∷ fs) b c e =
    let rest : IsChain functions (g ∷ fs) = record { known = All-tail (Contains functions) f (g ∷ fs) c.known; linked = c.linked.1 } in
    let w = chain-walk functions g fs b rest e in (All-head (Contains functions) f (g ∷ fs) c.known, refl, (w.0, sym c.linked.0, w.2))

module _ (ds : List FunDecl) (k : ℕ) (d : FunDecl) (at : slice_get ds k ≡ Some d) where
  -- a function among those up to this one is an earlier one, or this one
  known_before : (x : FunDecl) → Contains (take (k + 1) ds) x → Contains (take k ds) x ⊎ (x ≡ d)
  known_before x c =
      let i = contains-at (take (k + 1) ds) x c in
      let t = take_at (k + 1) ds i.0 x i.1 in
      ⊎_elim (λ lt. inl (at_contains (take k ds) i.0 x (at_take k ds i.0 x lt t.0)))
      (λ ge. let same : i.0 ≡ k = omega (arith, ge, t.1) in inr (one_value ds k x d (subst (λ (n : ℕ). slice_get ds n ≡ Some x) same t.0) at))
      (cases_lt i.0 k)

  -- before the first use of the function, or all
  first_use : (w : List FunDecl) (a b : SortId) → Walk (take (k + 1) ds) w a b → Walk (take k ds) w a b ⊎ ((u : List FunDecl) × Walk (take k ds) u a d.source)
  first_use [] a b h = inl h
  first_use (x ∷ w) a b h =
      ⊎_elim (λ earlier. ⊎_elim (λ rest. inl (earlier, h.1, rest)) (λ u. inr (x ∷ u.0, (earlier, h.1, u.1))) (first_use w x.target b h.2))
      (λ this. inr ([], sym h.1 ∙ ap (λ (e : FunDecl). e.source) this)) (known_before x h.0)

  -- behind the last use of the function, or all
  last_use : (w : List FunDecl) (a b : SortId) → Walk (take (k + 1) ds) w a b → Walk (take k ds) w a b ⊎ ((v : List FunDecl) × Walk (take k ds) v d.target b)
  last_use [] a b h = inl h
  last_use (x ∷ w) a b h =
      ⊎_elim (λ rest. ⊎_elim (λ earlier. inl (earlier, h.1, rest)) (λ this. inr (w, subst (λ (e : FunDecl). Walk (take k ds) w e.target b) this rest)) (known_before x h.0))
      (λ v. inr v) (last_use w x.target b h.2)

  closed : (f : FunDecl) (fs : List FunDecl) → Walk (take k ds) (f ∷ fs) f.source f.source → HasCycle (take k ds)
  closed f fs w =
      let is = walked (take k ds) f fs f.source w.2 in
      (f, fs, record { known = All-cons (Contains (take k ds)) f fs w.0 is.known; linked = is.linked }, is.ends)

  -- a new cycle leads from the function's target back to its source
  pub way_back : HasCycle (take (k + 1) ds) → (HasCycle (take k ds) → ⊥) → (w : List FunDecl) × Walk (take k ds) w d.target d.source
  way_back c none =
      let f : FunDecl = c.0 in
      let walk = chain-walk (take (k + 1) ds) f c.1 f.source c.2 c.3 in
      let last = ⊎_elim (λ all. absurd (none (closed f c.1 all))) (λ v. v) (last_use (f ∷ c.1) f.source f.source walk) in
      let first = ⊎_elim (λ all. absurd (none (closed f c.1 all))) (λ u. u) (first_use (f ∷ c.1) f.source f.source walk) in
      (last.0 ++ first.0, walk-append (take k ds) last.0 first.0 d.target f.source d.source last.1 first.1)

pub either_true : (a b : Bool) → (a || b) ≡ true → (a ≡ true) ⊎ (b ≡ true)
either_true true b h = inl refl
either_true false b h = inr h

-- functions by the numbers of their sorts
abbrev pub lead : List FunDecl → ℕ → ℕ → ℕ → Bool
lead = leads nat_eq (λ (f : FunDecl). f.source.n) (λ (f : FunDecl). f.target.n)

abbrev sort : ℕ → SortId
sort n = record { n = n }

-- What is found leads there.

lead-walk : (functions above : List FunDecl) → ((k : ℕ) (f : FunDecl) → slice_get above k ≡ Some f → Contains functions f) → (n a b : ℕ) → lead above n a b ≡ true
    → (ds : List FunDecl) × Walk functions ds (sort a) (sort b)
lead-walk functions above known zero a b h = ([], ap sort (eqb-true a b h))
lead-walk functions above known (suc n) a b h =
    let test : FunDecl → Bool = λ f. nat_eq f.source.n a && lead above n f.target.n b in
    ⊎_elim (λ same. ([], ap sort (eqb-true a b same)))
    (λ some.
    let any = Any-from_list_any test above some in
    let g : FunDecl = any.1 in
    let parts = and_parts (nat_eq g.source.n a) (lead above n g.target.n b) any.4 in
    let found : Contains functions g = known any.0 g (slice_get-get_or above any.0 g any.2 ∙ ap (λ (z : FunDecl). Some z) any.3) in
    let rest = lead-walk functions above known n g.target.n b parts.1 in
    (g ∷ rest.0, (found, ap sort (eqb-true g.source.n a parts.0), rest.1)))
    (either_true (nat_eq a b) (list_any test above) h)

-- where the functions are acyclic, none closes a cycle
pub no_cycle_closed : (sorts n : ℕ) (ds : List FunDecl) (k : ℕ) (d : FunDecl) → IsAcyclic sorts ds → slice_get ds k ≡ Some d
    → lead (take k ds) n d.target.n d.source.n ≡ false
no_cycle_closed sorts n ds k d acyclic at =
    not_true (lead (take k ds) n d.target.n d.source.n) (λ h.
    let walk = lead-walk ds (take k ds) (λ j g e. at_contains ds j g (take_at k ds j g e).0) n d.target.n d.source.n h in
    let is = walked ds d walk.0 d.source walk.1 in
    let chain : IsChain ds (d ∷ walk.0) = record { known = All-cons (Contains ds) d walk.0 (at_contains ds k d at) is.known; linked = is.linked } in
    acyclic-no_cycle sorts ds acyclic (d, walk.0, chain, is.ends))

-- What leads there is found.

walk-lead : (fs w : List FunDecl) (n : ℕ) (a b : SortId) → Walk fs w a b → length w ≤ n → lead fs n a.n b.n ≡ true
walk-lead fs [] zero a b w le = eq-eqb a.n b.n (ap (λ (s : SortId). s.n) w)
walk-lead fs [] (suc n) a b w le = or_first (nat_eq a.n b.n) _ (eq-eqb a.n b.n (ap (λ (s : SortId). s.n) w))
walk-lead fs (x ∷ w) zero a b h le = absurd (omega (arith, le))
walk-lead fs (x ∷ w) (suc n) a b h le =
    let i = contains-at fs x h.0 in
    let rest : lead fs n x.target.n b.n ≡ true = walk-lead fs w n x.target b h.2 (omega (arith, le)) in
    let test : FunDecl → Bool = λ z. nat_eq z.source.n a.n && lead fs n z.target.n b.n in
    or_second (nat_eq a.n b.n) (list_any test fs)
    (any_at test fs i.0 x i.1 (and_from (nat_eq x.source.n a.n) (lead fs n x.target.n b.n) (eq-eqb x.source.n a.n (ap (λ (s : SortId). s.n) h.1)) rest))

module _ (sorts : ℕ) (ds : List FunDecl) (good : All (HasSorts sorts) ds) where
  short_walk : (k : ℕ) (w : List FunDecl) (a b : SortId) → (HasCycle (take k ds) → ⊥) → Walk (take k ds) w a b → length w ≤ sorts
  short_walk k [] a b none h = omega arith
  short_walk k (x ∷ w) a b none h =
      let is = walked (take k ds) x w b h.2 in
      let lt : length (x ∷ w) < sorts = acyclic_from sorts (take k ds) (All-take (HasSorts sorts) k ds good) none x w
      (record { known = All-cons (Contains (take k ds)) x w h.0 is.known; linked = is.linked }) in
      omega (arith, lt)

  -- a function that closes a cycle is led back from
  led_back : (k : ℕ) (d : FunDecl) → slice_get ds k ≡ Some d → (HasCycle (take k ds) → ⊥) → HasCycle (take (k + 1) ds) → lead (take k ds) sorts d.target.n d.source.n ≡ true
  led_back k d at none c =
      let w = way_back ds k d at c none in walk-lead (take k ds) w.0 sorts d.target d.source w.1 (short_walk k w.0 d.target d.source none w.1)

  -- Where no function among the first is led back from, they have no cycle.
  module _ (count : ℕ) (open_ended : (k : ℕ) (d : FunDecl) → k < count → slice_get ds k ≡ Some d → lead (take k ds) sorts d.target.n d.source.n ≡ false) where
    pub no_cycle : (k : ℕ) → k ≤ count → HasCycle (take k ds) → ⊥
    no_cycle zero le c = let i = contains-at [] c.0 (All-head (Contains []) c.0 c.1 c.2.known) in (let e : ◌≡◌ {A = Option FunDecl} None (Some c.0) = i.1 in cc)
    no_cycle (suc k) le c =
        let none : HasCycle (take k ds) → ⊥ = no_cycle k (omega (arith, le)) in
        let same : suc k ≡ k + 1 = omega arith in
        ⊎_elim
        (λ lt. let at = slice_get-get_or ds k c.0 lt in
        let d : FunDecl = get_or ds k c.0 in
        no_true _ (led_back k d at none (subst (λ (n : ℕ). HasCycle (take n ds)) same c)) (open_ended k d (omega (arith, le)) at))
        (λ ge. none (subst HasCycle (take_all (suc k) ds (omega (arith, ge)) ∙ sym (take_all k ds ge)) c))
        (cases_lt k (length ds))

  pub acyclic : ((k : ℕ) (d : FunDecl) → slice_get ds k ≡ Some d → lead (take k ds) sorts d.target.n d.source.n ≡ false) → IsAcyclic sorts ds
  acyclic open_ended =
      acyclic_from sorts ds good (subst (λ (fs : List FunDecl). HasCycle fs → ⊥) (take_all (length ds) ds (omega arith)) (no_cycle (length ds) (λ k d lt at. open_ended k d at) (length ds) (omega arith)))

-- a function that is led back from closes a cycle
pub closed_by : (n : ℕ) (ds : List FunDecl) (k : ℕ) (d : FunDecl) → slice_get ds k ≡ Some d → lead (take k ds) n d.target.n d.source.n ≡ true → HasCycle (take (k + 1) ds)
closed_by n ds k d at h =
    let functions : List FunDecl = take (k + 1) ds in
    let among : (j : ℕ) (g : FunDecl) → j < k + 1 → slice_get ds j ≡ Some g → Contains functions g = λ j g lt e. at_contains functions j g (at_take (k + 1) ds j g lt e) in
    let walk = lead-walk functions (take k ds) (λ j g e. let t = take_at k ds j g e in among j g (omega (arith, t.1)) t.0) n d.target.n d.source.n h in
    let is = walked functions d walk.0 d.source walk.1 in
    (d, walk.0, record { known = All-cons (Contains functions) d walk.0 (among k d (omega arith) at) is.known; linked = is.linked }, is.ends)

pub cycle_told : (sorts : ℕ) (ds : List FunDecl) (k : ℕ) (d : FunDecl) → All (HasSorts sorts) ds → slice_get ds k ≡ Some d → (HasCycle (take k ds) → ⊥)
    → ((lead (take k ds) sorts d.target.n d.source.n ≡ true) ↔ HasCycle (take (k + 1) ds))
cycle_told sorts ds k d good at none = (closed_by sorts ds k d at, led_back sorts ds good k d at none)

-- none of the first k functions closes a cycle with those before it
abbrev pub AreOpen : List FunDecl → ℕ → ℕ → Type 0
AreOpen ds sorts k = (j : ℕ) (d : FunDecl) → j < k → slice_get ds j ≡ Some d → lead (take j ds) sorts d.target.n d.source.n ≡ false

pub open_more : (ds : List FunDecl) (sorts k : ℕ) (z : FunDecl) → AreOpen ds sorts k → lead (take k ds) sorts (get_or ds k z).target.n (get_or ds k z).source.n ≡ false → AreOpen ds sorts (k + 1)
open_more ds sorts k z before h j d lt at =
    ⊎_elim (λ earlier. before j d earlier at)
    (λ ge. let same : k ≡ j = omega (arith, ge, lt) in
    let this : get_or ds k z ≡ d = get_or_from_slice_get ds k d z (subst (λ (n : ℕ). slice_get ds n ≡ Some d) (sym same) at) in
    (λ i. lead (take (sym same i) ds) sorts (sym this i).target.n (sym this i).source.n) ∙ h)
    (cases_lt j k)

-- the first function that closes a cycle with those before it
pub first_closed : (ds : List FunDecl) (sorts k : ℕ) (z : FunDecl) → All (HasSorts sorts) ds → k < length ds → AreOpen ds sorts k → lead (take k ds) sorts (get_or ds k z).target.n (get_or ds k z).source.n ≡ true → IsFirstCycle ds k
first_closed ds sorts k z good lt before h = record {
  within = lt;
  before = no_cycle sorts ds good k before k (omega arith);
  closed = closed_by sorts ds k (get_or ds k z) (slice_get-get_or ds k z lt) h;
}

pub all_open : (ds : List FunDecl) (sorts k : ℕ) → All (HasSorts sorts) ds → length ds ≤ k → AreOpen ds sorts k → IsAcyclic sorts ds
all_open ds sorts k good le before = acyclic sorts ds good (λ j d at. before j d (omega (arith, le, slice_get_within ds j d at)) at)
