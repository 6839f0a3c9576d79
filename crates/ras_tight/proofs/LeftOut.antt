-- Formulas of which literals are left out.
use Rattle.std.proofs.Common.{◌≡◌, ℕ, ◌+◌, ◌<◌, List, [], ◌∷◌, ◌++◌, length, drop, refl, sym, ◌∙◌, ap, subst, true, arith, ◌⊎◌, ⊎_elim}
use Rattle.std.specs.Prelude.{slice_get, Some, All, Contains, IsTrue}
use Rattle.std.proofs.lemmas.Option.{slice_get_within, get_or_from_slice_get}
use Rattle.std.specs.List.{remove}
use Rattle.std.proofs.lemmas.List.{drop_more, drop_all, append-nil, append_assoc, length-append}
use Rattle.std.proofs.lemmas.List.Edits.{remove-append_left}
use Rattle.std.proofs.lemmas.List.Elements.{All-weaker, All-head, All-tail, All-cons, All-contains, All-contains_itself}
use Rattle.ras_logic.specs.declared.literal.Literal.{Literal}
use Rattle.ras_logic.specs.declared.ids.SortId.{SortId}
use Rattle.ras_logic.specs.declared.problem.Problem.{Problem}
use Rattle.ras_logic.specs.declared.raw_db.RawDb.{RawDb}
use Rattle.ras_logic.specs.declared.values.Values.{Values}
use Rattle.ras_logic.specs.declared.cube_fault.CubeFault.{CubeFault}
use Rattle.ras_logic.specs.declared.cube_fault.CubeFault.TheVariants.{Param}
use Rattle.ras_logic.specs.declared.literal.Literal.TheVariants.{Equal}
use Rattle.ras_logic.specs.Terms.{undef_term}
use Rattle.ras_logic.specs.CubeFaults.{IsCubeFault}
use Rattle.ras_logic.specs.Formulas.{Fits, LiteralFits, IsCube, HasNoParam}
use Rattle.ras_logic.specs.Shapes.{ShapeParts}
use Rattle.ras_logic.specs.Truth.{holds, AllHold}
use Rattle.ras_system.specs.declared.state.State.{State}
use Rattle.ras_system.specs.States.{Meets, values_at}
use Rattle.ras_core.specs.Admissible.{without}
use Rattle.ras_entail.specs.Entailment.{IsAmong}
use Rattle.ras_tight.specs.Tightened.{SomeEscapes, IsTightened}
use Rattle.ras_tight.specs.Tightening.{with_literals, left, left_of, IsTightUpTo}

-- what holds of each element holds of each where one is left out
all-left_out : {X : Type 0} (P : X → Type 0) (xs : List X) (y : X) (ys : List X) → All P (xs ++ y ∷ ys) → All P (xs ++ ys)
all-left_out P [] y ys h = All-tail P y ys h
all-left_out P (x ∷ xs) y ys h = All-cons P x (xs ++ ys) (All-head P x (xs ++ y ∷ ys) h) (all-left_out P xs y ys (All-tail P x (xs ++ y ∷ ys) h))

remove-middle : {X : Type 0} (xs : List X) (y : X) (ys : List X) → remove (xs ++ y ∷ ys) (length xs) ≡ xs ++ ys
remove-middle [] y ys = refl
remove-middle (x ∷ xs) y ys = ap (λ zs. x ∷ zs) (remove-middle xs y ys)

-- a formula's own literals hold where it does
module _ (p : Problem) (literals : List Literal) (own : All (Contains p.literals) literals) where
  pub own-meets : (d : RawDb) (s : State) → Meets d s p → Meets d s (with_literals p literals)
  own-meets d s m =
      let v : Values = values_at s p.rows m.0 m.1 in
      (m.0, m.1, m.2, m.3, All-weaker (Contains p.literals) (λ l. IsTrue (holds d v l)) (λ l among. All-contains (λ l. IsTrue (holds d v l)) p.literals l m.4 among) literals own)

  pub own-fits : (shape : ShapeParts) → Fits shape p → Fits shape (with_literals p literals)
  own-fits shape fits = record {
    rows = fits.rows;
    params = fits.params;
    literals = All-weaker (Contains p.literals) (LiteralFits shape p.rows p.params) (λ l among. All-contains (LiteralFits shape p.rows p.params) p.literals l fits.literals among) literals own;
  }

  pub own-unnamed : All HasNoParam p.literals → All HasNoParam literals
  own-unnamed none = All-weaker (Contains p.literals) HasNoParam (λ l among. All-contains HasNoParam p.literals l none among) literals own

module _ (shape : ShapeParts) (p : Problem) (list : List Problem) where
  -- what escapes from more literals escapes from fewer
  escapes-more : (all fewer : List Literal) → ((d : RawDb) (v : Values) → AllHold d v all → AllHold d v fewer) → SomeEscapes shape (with_literals p all) list
      → SomeEscapes shape (with_literals p fewer) list
  escapes-more all fewer weaker e =
      record {
        d = e.d;
        state = e.state;
        database = e.database;
        is_state = e.is_state;
        meets = (e.meets.0, e.meets.1, e.meets.2, e.meets.3, weaker e.d (values_at e.state p.rows e.meets.0 e.meets.1) e.meets.4);
        none = e.none;
      }

  pub tight-start : IsAmong shape p list → IsTightUpTo shape p list 0 []
  tight-start among = record { own = All-contains_itself p.literals; among = among; needed = λ k lt. absurd (omega (arith, lt)) }

  module _ (kept : List Literal) (place : ℕ) (l : Literal) (at : slice_get p.literals place ≡ Some l) (so_far : IsTightUpTo shape p list place kept) where
    -- the literal stands at the head of those that were not tried
    head-at : drop place p.literals ≡ l ∷ drop (place + 1) p.literals
    head-at =
        drop_more p.literals place l (slice_get_within p.literals place l at)
        ∙ ap (λ x. x ∷ drop (place + 1) p.literals) (get_or_from_slice_get p.literals place l l at)

    own-rest : All (Contains p.literals) (left p.literals kept (place + 1))
    own-rest = all-left_out (Contains p.literals) kept l (drop (place + 1) p.literals) (subst (λ ls. All (Contains p.literals) (kept ++ ls)) head-at so_far.own)

    pub rest-fits : Fits shape p → Fits shape (left_of p kept (place + 1))
    rest-fits fits = own-fits p (left p.literals kept (place + 1)) own-rest shape fits

    still-needed : (k : ℕ) → k < length kept → SomeEscapes shape (without k (left_of p kept (place + 1))) list
    still-needed k lt =
        let rest : List Literal = drop (place + 1) p.literals in
        let before : remove (left p.literals kept place) k ≡ remove kept k ++ l ∷ rest = ap (λ ls. remove (kept ++ ls) k) head-at ∙ remove-append_left kept (l ∷ rest) k lt in
        let after : remove (kept ++ rest) k ≡ remove kept k ++ rest = remove-append_left kept rest k lt in
        escapes-more (remove (left p.literals kept place) k) (remove (kept ++ rest) k)
        (λ d v all.
        subst (AllHold d v) (sym after)
        (all-left_out (λ l. IsTrue (holds d v l)) (remove kept k) l rest (subst (AllHold d v) before all)))
        (so_far.needed k lt)

    pub tight-without : IsAmong shape (left_of p kept (place + 1)) list → IsTightUpTo shape p list (place + 1) kept
    tight-without among = record { own = own-rest; among = among; needed = still-needed }

    same-left : left p.literals (kept ++ l ∷ []) (place + 1) ≡ left p.literals kept place
    same-left = append_assoc kept (l ∷ []) (drop (place + 1) p.literals) ∙ ap (λ ls. kept ++ ls) (sym head-at)

    needed-last : SomeEscapes shape (left_of p kept (place + 1)) list → SomeEscapes shape (with_literals p (remove (left p.literals kept place) (length kept))) list
    needed-last e =
        subst (λ ls. SomeEscapes shape (with_literals p ls) list)
        (sym (ap (λ ls. remove (kept ++ ls) (length kept)) head-at ∙ remove-middle kept l (drop (place + 1) p.literals))) e

    needed-each : SomeEscapes shape (left_of p kept (place + 1)) list → (k : ℕ) → k < length kept + 1
        → SomeEscapes shape (with_literals p (remove (left p.literals kept place) k)) list
    needed-each e k lt =
        let last_or_before : (k < length kept) ⊎ (k ≡ length kept) = grind arith in
        ⊎_elim (λ (before : k < length kept). so_far.needed k before)
        (λ (last : k ≡ length kept).
        subst (λ n. SomeEscapes shape (with_literals p (remove (left p.literals kept place) n)) list) (sym last) (needed-last e))
        last_or_before

    pub tight-with : SomeEscapes shape (left_of p kept (place + 1)) list → IsTightUpTo shape p list (place + 1) (kept ++ l ∷ [])
    tight-with e = record {
      own = subst (All (Contains p.literals)) (sym same-left) so_far.own;
      among = subst (λ ls. IsAmong shape (with_literals p ls) list) (sym same-left) so_far.among;
      needed = λ k lt.
          subst (λ ls. SomeEscapes shape (with_literals p (remove ls k)) list) (sym same-left) (needed-each e k (omega (arith, lt, length-append kept (l ∷ []))));
    }

  module _ (fits : Fits shape p) (kept : List Literal) (tight : IsTightUpTo shape p list (length p.literals) kept) where
    nothing-left : left p.literals kept (length p.literals) ≡ kept
    nothing-left = ap (λ ls. kept ++ ls) (drop_all (length p.literals) p.literals (omega arith)) ∙ append-nil kept

    own-kept : All (Contains p.literals) kept
    own-kept = subst (All (Contains p.literals)) nothing-left tight.own

    pub tight-end : IsTightened shape p list (with_literals p kept)
    tight-end = record {
      fits = own-fits p kept own-kept shape fits;
      rows = refl;
      weaker = own-meets p kept own-kept;
      among = subst (λ ls. IsAmong shape (with_literals p ls) list) nothing-left tight.among;
      needed = λ k lt. subst (λ ls. SomeEscapes shape (with_literals p (remove ls k)) list) nothing-left (tight.needed k lt);
    }

    pub tight-unnamed : IsCube p → All HasNoParam kept
    tight-unnamed cube = own-unnamed p kept own-kept cube.unnamed

-- a copy of the cube was tried to its end
module _ (shape : ShapeParts) (p whole : Problem) (list : List Problem) (same : whole ≡ p) (cube : IsCube p) (fits : Fits shape p) (kept : List Literal) (tight : IsTightUpTo shape whole list (length whole.literals) kept) where
  of-cube : IsTightUpTo shape p list (length p.literals) kept
  of-cube = subst (λ w. IsTightUpTo shape w list (length w.literals) kept) same tight

  pub tight-cube : (t : Problem) → t ≡ record { rows = whole.rows; params = []; literals = kept } → IsTightened shape p list t
  tight-cube t is =
      let there : t ≡ with_literals p kept =
      is ∙ ap (λ (w : Problem). record { rows = w.rows; params = []; literals = kept }) same
      ∙ ap (λ (params : List SortId). record { rows = p.rows; params = params; literals = kept }) (sym cube.none) in
      subst (IsTightened shape p list) (sym there) (tight-end shape p list fits kept of-cube)

  -- none of its literals names a data parameter
  pub no-fault : (q : CubeFault) → ¬ IsCubeFault kept q
  no-fault (Param k) bad =
      let d : Literal = Equal (undef_term (record { n = 0 })) (undef_term (record { n = 0 })) true in
      bad.bad d (tight-unnamed shape p list fits kept of-cube cube k d bad.within)
