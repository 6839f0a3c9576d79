-- A list of functions has a cycle exactly where it has a chain of as many functions as there are sorts.
use Rattle.std.proofs.Common.{◌≡◌, ℕ, zero, suc, ◌<◌, ◌≤◌, Bool, true, false, ◌||◌, List, [], ◌∷◌, ◌++◌, length, get_or, refl, sym, ap, subst, arith, ◌⊎◌, inl, inr, ⊎_elim, length-append}
use Rattle.std.specs.Prelude.{All, Contains}
use Rattle.std.specs.List.{list_any, AllByRecursion, IsDistinct}
use Rattle.std.proofs.lemmas.List.Elements.{All-head, All-tail, All-cons, All-nil, All-contains, All-append}
use Rattle.std.proofs.lemmas.Bool.{eqb-true}
use Rattle.std.proofs.lemmas.Map.Steps.{length-le_from_distinct_below}
use Rattle.std.proofs.Math.Dec.{eqb}
use Rattle.ras_logic.specs.declared.ids.SortId.{SortId}
use Rattle.ras_logic.specs.declared.function.FunDecl.{FunDecl}
use Rattle.ras_logic.specs.Schemas.{IsLinked, IsChain, IsAcyclic, HasSorts}
use Rattle.ras_logic.specs.SchemaFaults.{end_of, HasCycle}

-- there is a chain that has as many functions as there are sorts, or more
abbrev pub HasLongChain : ℕ → List FunDecl → Type 0
HasLongChain sorts functions = (f : FunDecl) × (fs : List FunDecl) × IsChain functions (f ∷ fs) × (sorts ≤ length (f ∷ fs))

-- the targets along a chain
ends : FunDecl → List FunDecl → List ℕ
ends f [] = f.target.n ∷ []
ends f (g ∷ fs) = f.target.n ∷ ends g fs

length-ends : (f : FunDecl) (fs : List FunDecl) → length (ends f fs) ≡ length (f ∷ fs)
unfolding ends
length-ends f [] = refl
length-ends f (g ∷ fs) = ap suc (length-ends g fs)

either : (b : Bool) → (b ≡ true) ⊎ (b ≡ false)
either true = inl refl
either false = inr refl

-- the part of a chain up to where it reaches a sort
record Reach (functions : List FunDecl) (f : FunDecl) (s : ℕ) : Type 0 where
  path : List FunDecl
  chain : IsChain functions (f ∷ path)
  arrives : (end_of f path).n ≡ s

or_true : (a b : Bool) → (a || b) ≡ true → (a ≡ true) ⊎ (b ≡ true)
or_true true b h = inl refl
or_true false b h = inr h

alone : (functions : List FunDecl) (f : FunDecl) (fs : List FunDecl) → IsChain functions (f ∷ fs) → IsChain functions (f ∷ [])
alone functions f fs c = record {
  known = All-cons (Contains functions) f [] (All-head (Contains functions) f fs c.known) (All-nil (Contains functions));
  linked = tt;
}

rest_of : (functions : List FunDecl) (f g : FunDecl) (fs : List FunDecl) → IsChain functions (f ∷ g ∷ fs) → IsChain functions (g ∷ fs)
rest_of functions f g fs c = record { known = All-tail (Contains functions) f (g ∷ fs) c.known; linked = c.linked.1 }

reach : (functions : List FunDecl) (s : ℕ) (f : FunDecl) (fs : List FunDecl) → IsChain functions (f ∷ fs) → list_any (eqb s) (ends f fs) ≡ true → Reach functions f s
unfolding ends
reach functions s f [] c h =
    ⊎_elim (λ e. record { path = []; chain = c; arrives = sym (eqb-true s f.target.n e) }) (λ no_more. absurd (cc)) (or_true (eqb s f.target.n) false h)
reach functions s f (g ∷ fs) c h =
    let later : list_any (eqb s) (ends g fs) ≡ true → Reach functions g s = reach functions s g fs (rest_of functions f g fs c) in
    ⊎_elim (λ e. record { path = []; chain = alone functions f (g ∷ fs) c; arrives = sym (eqb-true s f.target.n e) })
    (λ more. let r = later more in record {
      path = g ∷ r.path;
      chain = record { known = All-cons (Contains functions) f (g ∷ r.path) (All-head (Contains functions) f (g ∷ fs) c.known) r.chain.known; linked = (c.linked.0, r.chain.linked) };
      arrives = r.arrives;
    })
    (or_true (eqb s f.target.n) (list_any (eqb s) (ends g fs)) h)

none_of : (s : ℕ) (xs : List ℕ) → list_any (eqb s) xs ≡ false → AllByRecursion (λ y. eqb s y ≡ false) xs
none_of s [] h = tt
none_of s (x ∷ xs) h = parts (eqb s x) refl h (none_of s xs)
  where
    parts : (b : Bool) → eqb s x ≡ b → (b || list_any (eqb s) xs) ≡ false → (list_any (eqb s) xs ≡ false → AllByRecursion (λ y. eqb s y ≡ false) xs) → AllByRecursion (λ y. eqb s y ≡ false) (x ∷ xs)
    parts true e k later = absurd (cc)
    parts false e k later = (e, later k)

-- a chain has a cycle, or comes to no sort twice
cycle_or_distinct : (functions : List FunDecl) (f : FunDecl) (fs : List FunDecl) → IsChain functions (f ∷ fs)
    → HasCycle functions ⊎ IsDistinct eqb (f.source.n ∷ ends f fs)
unfolding ends IsDistinct
cycle_or_distinct functions f [] c =
    ⊎_elim (λ back. let r = reach functions f.source.n f [] c back in inl (f, r.path, r.chain, ap (λ (m : ℕ). record { n = m }) r.arrives))
    (λ none. inr (none_of f.source.n (ends f []) none, (tt, tt))) (either (list_any (eqb f.source.n) (ends f [])))
cycle_or_distinct functions f (g ∷ fs) c =
    let later : HasCycle functions ⊎ IsDistinct eqb (g.source.n ∷ ends g fs) = cycle_or_distinct functions g fs (rest_of functions f g fs c) in
    let same : g.source.n ≡ f.target.n = ap (λ (s : SortId). s.n) (sym c.linked.0) in
    ⊎_elim (λ back. let r = reach functions f.source.n f (g ∷ fs) c back in inl (f, r.path, r.chain, ap (λ (m : ℕ). record { n = m }) r.arrives))
    (λ none. ⊎_elim inl
    (λ distinct. let there : IsDistinct eqb (f.target.n ∷ ends g fs) = subst (λ (m : ℕ). IsDistinct eqb (m ∷ ends g fs)) same distinct in
    inr (none_of f.source.n (ends f (g ∷ fs)) none, there)) later)
    (either (list_any (eqb f.source.n) (ends f (g ∷ fs))))

ends-below : (sorts : ℕ) (f : FunDecl) (fs : List FunDecl) → All (HasSorts sorts) (f ∷ fs) → All (λ x. x < sorts) (ends f fs)
unfolding ends
ends-below sorts f [] h = All-cons (λ x. x < sorts) f.target.n [] (All-head (HasSorts sorts) f [] h).1 (All-nil (λ x. x < sorts))
ends-below sorts f (g ∷ fs) h =
    All-cons (λ x. x < sorts) f.target.n (ends g fs) (All-head (HasSorts sorts) f (g ∷ fs) h).1 (ends-below sorts g fs (All-tail (HasSorts sorts) f (g ∷ fs) h))

below_from : (sorts q : ℕ) (xs : List ℕ) → All (λ x. x < sorts) xs → list_any (eqb q) xs ≡ true → q < sorts
below_from sorts q [] h k = absurd (cc)
below_from sorts q (x ∷ xs) h k =
    let later : list_any (eqb q) xs ≡ true → q < sorts = below_from sorts q xs (All-tail (λ y. y < sorts) x xs h) in
    let here : x < sorts = All-head (λ y. y < sorts) x xs h in
    ⊎_elim (λ e. let same : q ≡ x = eqb-true q x e in omega arith) later (or_true (eqb q x) (list_any (eqb q) xs) k)

pub HasLongChain-cycle : (sorts : ℕ) (functions : List FunDecl) → All (HasSorts sorts) functions → HasLongChain sorts functions → HasCycle functions
HasLongChain-cycle sorts functions good long =
    let f : FunDecl = long.0 in let fs : List FunDecl = long.1 in
    let all : All (HasSorts sorts) (f ∷ fs) = λ k d lt. All-contains (HasSorts sorts) functions (get_or (f ∷ fs) k d) good (long.2.known k d lt) in
    let below : All (λ x. x < sorts) (f.source.n ∷ ends f fs) = All-cons (λ x. x < sorts) f.source.n (ends f fs) (All-head (HasSorts sorts) f fs all).0 (ends-below sorts f fs all) in
    ⊎_elim (λ c. c)
    (λ distinct. let most = length-le_from_distinct_below (f.source.n ∷ ends f fs) sorts distinct (λ q. below_from sorts q (f.source.n ∷ ends f fs) below) in
    absurd (omega (arith, most, length-ends f fs, long.3)))
    (cycle_or_distinct functions f fs long.2)

linked-append : (f : FunDecl) (fs : List FunDecl) (g : FunDecl) (gs : List FunDecl) → IsLinked (f ∷ fs) → end_of f fs ≡ g.source → IsLinked (g ∷ gs) → IsLinked (f ∷ fs ++ g ∷ gs)
linked-append f [] g gs l e k = (e, k)
linked-append f (h ∷ fs) g gs l e k = (l.0, linked-append h fs g gs l.1 e k)

-- chains that go round, of any length
record Rounds (functions : List FunDecl) (f : FunDecl) (n : ℕ) : Type 0 where
  path : List FunDecl
  chain : IsChain functions (f ∷ path)
  long : n ≤ length (f ∷ path)

rounds : (functions : List FunDecl) (f : FunDecl) (fs : List FunDecl) → IsChain functions (f ∷ fs) → end_of f fs ≡ f.source → (n : ℕ) → Rounds functions f n
rounds functions f fs c e zero = record { path = fs; chain = c; long = omega arith }
rounds functions f fs c e (suc n) =
    let r = rounds functions f fs c e n in
    record {
      path = fs ++ f ∷ r.path;
      chain = record {
        known = All-append (Contains functions) (f ∷ fs) (f ∷ r.path) c.known r.chain.known;
        linked = linked-append f fs f r.path c.linked e r.chain.linked;
      };
      long = let more = r.long in omega (arith, more, length-append fs (f ∷ r.path));
    }

-- going round a cycle makes a chain of any length
pub HasCycle-long : (sorts : ℕ) (functions : List FunDecl) → HasCycle functions → HasLongChain sorts functions
HasCycle-long sorts functions c = let r = rounds functions c.0 c.1 c.2 c.3 sorts in (c.0, r.path, r.chain, r.long)

pub acyclic-no_cycle : (sorts : ℕ) (functions : List FunDecl) → IsAcyclic sorts functions → HasCycle functions → ⊥
acyclic-no_cycle sorts functions acyclic c =
    let long = HasCycle-long sorts functions c in let short = acyclic long.0 long.1 long.2 in omega (arith, short, long.3)
