-- The rows of a formula after a step, each with what matches it: a row parameter, or a choice of a bulk case.
use Rattle.std.proofs.Common.{◌≡◌, ℕ, ◌+◌, ◌<◌, Bool, true, false, ◌||◌, nat_eq, List, [], ◌∷◌, map, length, get_or, refl, sym, ◌∙◌, ap, subst, arith, slice_get, Option, Some, None, zero-add}
use Rattle.std.specs.Prelude.{⊤}
use Rattle.std.specs.List.{list_any}
use Rattle.std.proofs.lemmas.Bool.{eqb-true, eq-eqb}
use Rattle.ras_logic.specs.declared.ids.RelId.{RelId}
use Rattle.ras_logic.proofs.ByPlace.{one_value}
use Rattle.ras_system.specs.declared.state.State.{State}
use Rattle.ras_system.specs.declared.bulk.Bulk.{Bulk}
use Rattle.ras_system.specs.States.{rows_of}
use Rattle.ras_system.specs.Steps.{named_from}
use Rattle.ras_system.specs.Preimages.{unmatched, CaseChoice, case_choices_from}
use Rattle.ras_backwards.proofs.Lists.{In}
use Rattle.ras_backwards.proofs.ChosenRows.{IsAbsent, AreChosen, AreApart, chosen-each, named-none, named-absent, named-some, some-named}
use Rattle.ras_backwards.proofs.Combinations.{IsMatching, cases_of, AreCaseChoices}

-- a row of a relation with the row parameter that names it, or with the case that it takes unnamed
pub data Link : Type 0 where
  named : RelId → ℕ → ℕ → Link
  unnamed : RelId → ℕ → CaseChoice → Link

abbrev pub relations : List Link → List RelId
relations [] = []
relations (named r k p ∷ ls) = r ∷ relations ls
relations (unnamed r k w ∷ ls) = r ∷ relations ls

abbrev pub numbers : List Link → List ℕ
numbers [] = []
numbers (named r k p ∷ ls) = k ∷ numbers ls
numbers (unnamed r k w ∷ ls) = k ∷ numbers ls

abbrev pub matching : List Link → List (Option ℕ)
matching [] = []
matching (named r k p ∷ ls) = Some p ∷ matching ls
matching (unnamed r k w ∷ ls) = None ∷ matching ls

abbrev pub ways : List Link → List CaseChoice
ways [] = []
ways (named r k p ∷ ls) = ways ls
ways (unnamed r k w ∷ ls) = w ∷ ways ls

-- the unnamed rows alone
abbrev pub more_relations : List Link → List RelId
more_relations [] = []
more_relations (named r k p ∷ ls) = more_relations ls
more_relations (unnamed r k w ∷ ls) = r ∷ more_relations ls

abbrev pub more_numbers : List Link → List ℕ
more_numbers [] = []
more_numbers (named r k p ∷ ls) = more_numbers ls
more_numbers (unnamed r k w ∷ ls) = k ∷ more_numbers ls

pub unmatched-relations : (n : ℕ) (ls : List Link) → map (λ (q : ℕ × RelId). q.1) (unmatched n (relations ls) (matching ls)) ≡ more_relations ls
unmatched-relations n [] = refl
unmatched-relations n (named r k p ∷ ls) = unmatched-relations n ls
unmatched-relations n (unnamed r k w ∷ ls) = ap (λ l. r ∷ l) (unmatched-relations (n + 1) ls)

module _ (params : List RelId) (chosen : List ℕ) (bulk : List Bulk) where
  -- each named row is named by its row parameter, each other by none; its choice is one of those of its number
  abbrev pub ArePlaced : ℕ → List Link → Type 0
  ArePlaced n [] = ⊤
  ArePlaced n (named r k p ∷ ls) = (named_from 0 params chosen r.n k ≡ Some p) × ArePlaced n ls
  ArePlaced n (unnamed r k w ∷ ls) = (named_from 0 params chosen r.n k ≡ None) × In w (case_choices_from n [] (cases_of bulk r)) × ArePlaced (n + 1) ls

  pub placed-choices : (n : ℕ) (ls : List Link) → ArePlaced n ls → AreCaseChoices bulk (unmatched n (relations ls) (matching ls)) (ways ls)
  placed-choices n [] h = tt
  placed-choices n (named r k p ∷ ls) h = placed-choices n ls h.1
  placed-choices n (unnamed r k w ∷ ls) h = (h.1, placed-choices (n + 1) ls h.2)

  -- no link names a row parameter that is taken
  abbrev pub AreFresh : List ℕ → List Link → Type 0
  AreFresh taken [] = ⊤
  AreFresh taken (named r k p ∷ ls) = (list_any (nat_eq p) taken ≡ false) × AreFresh taken ls
  AreFresh taken (unnamed r k w ∷ ls) = AreFresh taken ls

  pub none-taken : (ls : List Link) → AreFresh [] ls
  none-taken [] = tt
  none-taken (named r k p ∷ ls) = (refl, none-taken ls)
  none-taken (unnamed r k w ∷ ls) = none-taken ls

  apart-from : (p q : ℕ) (taken : List ℕ) → (q ≡ p → ⊥) → list_any (nat_eq q) taken ≡ false → list_any (nat_eq q) (p ∷ taken) ≡ false
  apart-from p q taken apart fresh = go (nat_eq q p) refl
    where
      go : (b : Bool) → nat_eq q p ≡ b → (b || list_any (nat_eq q) taken) ≡ false
      go true e = absurd (apart (eqb-true q p e))
      go false e = fresh

  -- a row parameter names one row alone
  one-row : (r q : RelId) (k j p : ℕ) → named_from 0 params chosen r.n k ≡ Some p → named_from 0 params chosen q.n j ≡ Some p → (q ≡ r) × (j ≡ k)
  one-row r q k j p h g =
      let m = named-some 0 params chosen r k p h in
      let n = named-some 0 params chosen q j p g in
      let one : m.offset ≡ n.offset = (let a = m.place in let b = n.place in omega (arith, a, b)) in (
        one_value params n.offset q r n.known (subst (λ i. slice_get params i ≡ Some r) one m.known),
        sym n.row ∙ sym (ap (λ i. get_or chosen i 0) one) ∙ m.row,
      )

  pub fresh-more : (r : RelId) (k p n : ℕ) (taken : List ℕ) (ls : List Link) → named_from 0 params chosen r.n k ≡ Some p → IsAbsent r k (relations ls) (numbers ls)
      → ArePlaced n ls → AreFresh taken ls → AreFresh (p ∷ taken) ls
  fresh-more r k p n taken [] h away placed fresh = tt
  fresh-more r k p n taken (named q j o ∷ ls) h away placed fresh = (
    apart-from p o taken (λ e. let same = one-row r q k j p h (placed.0 ∙ ap Some e) in away.0 same.0 same.1) fresh.0,
    fresh-more r k p n taken ls h away.1 placed.1 fresh.1,
  )
  fresh-more r k p n taken (unnamed q j w ∷ ls) h away placed fresh = fresh-more r k p (n + 1) taken ls h away.1 placed.2 fresh

  pub placed-matching : (s : State) (n : ℕ) (taken : List ℕ) (ls : List Link) → ArePlaced n ls → AreFresh taken ls → AreChosen s (relations ls) (numbers ls)
      → IsMatching params (relations ls) taken (matching ls)
  placed-matching s n taken [] placed fresh are = tt
  placed-matching s n taken (named r k p ∷ ls) placed fresh are =
      let m = named-some 0 params chosen r k p placed.0 in
      let at : m.offset ≡ p = (let a = m.place in omega (arith, a)) in (
        record { known = subst (λ i. slice_get params i ≡ Some r) at m.known; fresh = fresh.0 },
        placed-matching s n (p ∷ taken) ls placed.1 (fresh-more r k p n taken ls placed.0 are.1 placed.1 fresh.1) are.2,
      )
  placed-matching s n taken (unnamed r k w ∷ ls) placed fresh are = placed-matching s (n + 1) taken ls placed.2 fresh are.2

  -- the unnamed rows are different rows, and none is named
  more-absent : (r : RelId) (k : ℕ) (ls : List Link) → IsAbsent r k (relations ls) (numbers ls) → IsAbsent r k (more_relations ls) (more_numbers ls)
  more-absent r k [] h = tt
  more-absent r k (named q j p ∷ ls) h = more-absent r k ls h.1
  more-absent r k (unnamed q j w ∷ ls) h = (h.0, more-absent r k ls h.1)

  pub more-chosen : (s : State) (ls : List Link) → AreChosen s (relations ls) (numbers ls) → AreChosen s (more_relations ls) (more_numbers ls)
  more-chosen s [] h = tt
  more-chosen s (named r k p ∷ ls) h = more-chosen s ls h.2
  more-chosen s (unnamed r k w ∷ ls) h = (h.0, more-absent r k ls h.1, more-chosen s ls h.2)

  pub more-apart : (n : ℕ) (ls : List Link) → ArePlaced n ls → AreApart params chosen (more_relations ls) (more_numbers ls)
  more-apart n [] h = tt
  more-apart n (named r k p ∷ ls) h = more-apart n ls h.1
  more-apart n (unnamed r k w ∷ ls) h = (named-absent 0 params chosen r k h.0, more-apart (n + 1) ls h.2)

  -- the other way round: all rows are different
  listed_taken : (p : ℕ) (taken : List ℕ) → list_any (nat_eq p) taken ≡ true → (q : ℕ) → list_any (nat_eq q) taken ≡ false → q ≡ p → ⊥
  listed_taken p taken h q none e = let both : list_any (nat_eq p) taken ≡ false = subst (λ i. list_any (nat_eq i) taken ≡ false) e none in absurd (cc)

  taken-more : (p o : ℕ) (taken : List ℕ) → list_any (nat_eq p) taken ≡ true → list_any (nat_eq p) (o ∷ taken) ≡ true
  taken-more p o taken h = go (nat_eq p o)
    where
      go : (b : Bool) → (b || list_any (nat_eq p) taken) ≡ true
      go true = refl
      go false = h

  named-away : (r : RelId) (k p n : ℕ) (taken : List ℕ) (ls : List Link) → named_from 0 params chosen r.n k ≡ Some p → list_any (nat_eq p) taken ≡ true
      → ArePlaced n ls → IsMatching params (relations ls) taken (matching ls) → IsAbsent r k (relations ls) (numbers ls)
  named-away r k p n taken [] h is placed m = tt
  named-away r k p n taken (named q j o ∷ ls) h is placed m = (
    (λ e f.
        let there : named_from 0 params chosen r.n k ≡ Some o = subst (λ (x : RelId). named_from 0 params chosen x.n k ≡ Some o) e (subst (λ i. named_from 0 params chosen q.n i ≡ Some o) f placed.0) in
        let same : o ≡ p = cc in listed_taken p taken is o m.0.fresh same),
    named-away r k p n (o ∷ taken) ls h (taken-more p o taken is) placed.1 m.1,
  )
  named-away r k p n taken (unnamed q j w ∷ ls) h is placed m = (
    (λ e f.
        let there : named_from 0 params chosen r.n k ≡ None = subst (λ (x : RelId). named_from 0 params chosen x.n k ≡ None) e (subst (λ i. named_from 0 params chosen q.n i ≡ None) f placed.0) in
        absurd (cc)),
    named-away r k p (n + 1) taken ls h is placed.2 m,
  )

  unnamed-away : (r : RelId) (k n : ℕ) (ls : List Link) → named_from 0 params chosen r.n k ≡ None → ArePlaced n ls → IsAbsent r k (more_relations ls) (more_numbers ls)
      → IsAbsent r k (relations ls) (numbers ls)
  unnamed-away r k n [] h placed away = tt
  unnamed-away r k n (named q j o ∷ ls) h placed away = (
    (λ e f.
        let there : named_from 0 params chosen r.n k ≡ Some o = subst (λ (x : RelId). named_from 0 params chosen x.n k ≡ Some o) e (subst (λ i. named_from 0 params chosen q.n i ≡ Some o) f placed.0) in
        absurd (cc)),
    unnamed-away r k n ls h placed.1 away,
  )
  unnamed-away r k n (unnamed q j w ∷ ls) h placed away = (away.0, unnamed-away r k (n + 1) ls h placed.2 away.1)

  listed_here : (p : ℕ) (taken : List ℕ) → list_any (nat_eq p) (p ∷ taken) ≡ true
  listed_here p taken = ap (λ (b : Bool). b || list_any (nat_eq p) taken) (eq-eqb p p refl)

  pub all-chosen : (s : State) (n : ℕ) (taken : List ℕ) (ls : List Link) → AreChosen s params chosen → ArePlaced n ls → IsMatching params (relations ls) taken (matching ls)
      → AreChosen s (more_relations ls) (more_numbers ls) → AreChosen s (relations ls) (numbers ls)
  all-chosen s n taken [] are placed m more = tt
  all-chosen s n taken (named r k p ∷ ls) are placed m more = (
    (let o = named-some 0 params chosen r k p placed.0 in subst (λ i. i < length (rows_of s r)) o.row (chosen-each s params chosen are o.offset r o.known)),
    named-away r k p n (p ∷ taken) ls placed.0 (listed_here p taken) placed.1 m.1,
    all-chosen s n (p ∷ taken) ls are placed.1 m.1 more,
  )
  all-chosen s n taken (unnamed r k w ∷ ls) are placed m more = (
    more.0,
    unnamed-away r k (n + 1) ls placed.0 placed.2 more.1,
    all-chosen s (n + 1) taken ls are placed.2 m more.2,
  )

  -- the links of choices of the list, under these rows
  pub record AreLinks (n : ℕ) (rows : List RelId) (m : List (Option ℕ)) (ws : List CaseChoice) (more : List ℕ) : Type 0 where
    pub links : List Link
    pub relations_are : relations links ≡ rows
    pub matching_is : matching links ≡ m
    pub ways_are : ways links ≡ ws
    pub more_are : more_numbers links ≡ more
    pub placed : ArePlaced n links

  pub links-of : (s : State) → AreChosen s params chosen → (n : ℕ) (taken : List ℕ) (rows : List RelId) (m : List (Option ℕ)) (ws : List CaseChoice) (more : List ℕ)
      → IsMatching params rows taken m → AreCaseChoices bulk (unmatched n rows m) ws → AreChosen s (map (λ (q : ℕ × RelId). q.1) (unmatched n rows m)) more
      → AreApart params chosen (map (λ (q : ℕ × RelId). q.1) (unmatched n rows m)) more → AreLinks n rows m ws more
  links-of s are n taken [] [] [] [] h c g a = record { links = []; relations_are = refl; matching_is = refl; ways_are = refl; more_are = refl; placed = tt }
  links-of s are n taken [] [] [] (j ∷ more) h c g a = absurd g
  links-of s are n taken [] [] (w ∷ ws) more h c g a = absurd c
  links-of s are n taken [] (o ∷ m) ws more h c g a = absurd h
  links-of s are n taken (r ∷ rows) [] ws more h c g a = absurd h
  links-of s are n taken (r ∷ rows) (Some p ∷ m) ws more h c g a =
      let rest = links-of s are n (p ∷ taken) rows m ws more h.1 c g a in
      record {
        links = named r (get_or chosen p 0) p ∷ rest.links;
        relations_are = ap (λ l. r ∷ l) rest.relations_are;
        matching_is = ap (λ l. Some p ∷ l) rest.matching_is;
        ways_are = rest.ways_are;
        more_are = rest.more_are;
        placed = (some-named s 0 params chosen are p r h.0.known ∙ ap Some (zero-add p), rest.placed);
      }
  links-of s are n taken (r ∷ rows) (None ∷ m) [] more h c g a = absurd c
  links-of s are n taken (r ∷ rows) (None ∷ m) (w ∷ ws) [] h c g a = absurd g
  links-of s are n taken (r ∷ rows) (None ∷ m) (w ∷ ws) (j ∷ more) h c g a =
      let rest = links-of s are (n + 1) taken rows m ws more h c.1 g.2 a.1 in
      record {
        links = unnamed r j w ∷ rest.links;
        relations_are = ap (λ l. r ∷ l) rest.relations_are;
        matching_is = ap (λ l. None ∷ l) rest.matching_is;
        ways_are = ap (λ l. w ∷ l) rest.ways_are;
        more_are = ap (λ l. j ∷ l) rest.more_are;
        placed = (named-none 0 params chosen r j a.0, c.0, rest.placed);
      }
