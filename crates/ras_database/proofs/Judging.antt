-- Numbers are a database, or have a first fault.
use Rattle.std.proofs.Common.{◌≡◌, ℕ, zero, suc, ◌+◌, ◌-◌, ◌<◌, ◌≤◌, Bool, true, false, List, [], length, get_or, take, refl, sym, ◌∙◌, ap, subst, arith, ◌⊎◌, inl, inr, add-one, below_more}
use Rattle.std.specs.Prelude.{slice_get, Option, Some, None, All}
use Rattle.std.proofs.lemmas.Option.{same_Some, slice_get_within}
use Rattle.std.proofs.lemmas.Bool.{cases_lt, cases_eq, cases_Bool}
use Rattle.std.proofs.lemmas.List.{length-take-le, get_or-take, get_or_default}
use Rattle.std.proofs.lemmas.List.Elements.{All-from_get_or}
use Rattle.ras_logic.specs.declared.ids.SortId.{SortId}
use Rattle.ras_logic.specs.declared.function.FunDecl.{FunDecl}
use Rattle.ras_logic.specs.declared.raw_db.RawDb.{RawDb}
use Rattle.ras_logic.specs.Schemas.{SchemaParts}
use Rattle.ras_logic.specs.Databases.{size_of, IsElement, image, constant_of, IsTable, IsDatabase}
use Rattle.ras_database.specs.declared.db_fault.Part.TheVariants.{Sizes, Tables, Table, Constants}
use Rattle.ras_database.specs.declared.db_fault.DbFault.{DbFault}
use Rattle.ras_database.specs.declared.db_fault.DbFault.TheVariants.{WrongLength, OutOfRange, UndefImage, ConstantClash}
use Rattle.ras_database.specs.DatabaseFaults.{HasLengths, table_of, IsEntry, AreTablesBefore, IsTurn, IsEntryTurn, IsConstant, IsClash, AreConstantsBefore, IsConstantTurn, IsDatabaseFault}
use Rattle.ras_database.proofs.FirstPlaces.{IsFirst, all_or_first}
use Rattle.ras_database.proofs.Passing.{table_from, constants_more, database_from}

module _ (s : SchemaParts) (d : RawDb) where
  abbrev pub HasFault : Type 0
  HasFault = (fault : DbFault) × IsDatabaseFault s d fault

  judged_lengths : HasLengths s d ⊎ HasFault
  judged_lengths = go (cases_eq (length d.sizes) s.sorts) (cases_eq (length d.tables) (length s.functions)) (cases_eq (length d.constants) (length s.constants))
    where
      go : (length d.sizes ≡ s.sorts) ⊎ (length d.sizes ≡ s.sorts → ⊥) → (length d.tables ≡ length s.functions) ⊎ (length d.tables ≡ length s.functions → ⊥)
          → (length d.constants ≡ length s.constants) ⊎ (length d.constants ≡ length s.constants → ⊥) → HasLengths s d ⊎ HasFault
      go (inr n) t c = inr (WrongLength Sizes 0, (refl, n))
      go (inl e) (inr n) c = inr (WrongLength Tables 0, (refl, e, n))
      go (inl e) (inl g) (inr n) = inr (WrongLength Constants 0, (refl, e, g, n))
      go (inl e) (inl g) (inl h) = inl (record { sizes = e; tables = g; constants = h })

  -- an entry that is none
  abbrev IsWrong : FunDecl → ℕ → Type 0
  IsWrong f x = (size_of d f.target < x) ⊎ ((f.total ≡ true) × (x ≡ 0))

  judged_entry : (f : FunDecl) (x : ℕ) → IsEntry d f x ⊎ IsWrong f x
  judged_entry f x = go (cases_lt (size_of d f.target) x) (cases_Bool f.total) (cases_eq x 0)
    where
      go : (size_of d f.target < x) ⊎ (x ≤ size_of d f.target) → (f.total ≡ true) ⊎ (f.total ≡ false) → (x ≡ 0) ⊎ (x ≡ 0 → ⊥) → IsEntry d f x ⊎ IsWrong f x
      go (inl lt) b z = inr (inl lt)
      go (inr le) (inl t) (inl e) = inr (inr (t, e))
      go (inr le) (inl t) (inr ne) = inl (record { in_target = le; total = λ h. omega (arith, ne) })
      go (inr le) (inr n) z = inl (record { in_target = le; total = λ h. absurd (let both = sym n ∙ h in cc) })

  module _ (lengths : HasLengths s d) where
    judged_entries : (k : ℕ) (f : FunDecl) → AreTablesBefore s d k → slice_get s.functions k ≡ Some f → length (table_of d k) ≡ size_of d f.source
        → IsTable d f (table_of d k) ⊎ HasFault
    judged_entries k f before here long =
        go (all_or_first (λ (j : ℕ). IsEntry d f (get_or (table_of d k) j 0)) (λ (j : ℕ). IsWrong f (get_or (table_of d k) j 0)) (λ j. judged_entry f (get_or (table_of d k) j 0)) (length (table_of d k)))
      where
        turn : (j : ℕ) → j < length (table_of d k) → ((i : ℕ) → i < j → IsEntry d f (get_or (table_of d k) i 0)) → IsEntryTurn s d k (suc j) f
        turn j lt all = record {
          turn = record { lengths = lengths; before = before; here = here };
          as_long = long;
          element = omega arith;
          within = omega arith;
          entries = let shorter : length (take j (table_of d k)) ≡ j = length-take-le j (table_of d k) (omega arith) in
              rw (let one : suc j - 1 ≡ j = omega arith in one)
              (All-from_get_or (IsEntry d f) (take j (table_of d k)) 0 (λ i below. let low : i < j = omega arith in rw (get_or-take j (table_of d k) i 0 low) (all i low)));
        }

        wrong : (j : ℕ) → IsEntryTurn s d k (suc j) f → IsWrong f (get_or (table_of d k) j 0) → HasFault
        wrong j t (inl lt) = (OutOfRange Table k (suc j), (f, t, lt))
        wrong j t (inr (total, e)) = (UndefImage (record { n = k }) (suc j), (f, t, total, e))

        go : ((j : ℕ) → j < length (table_of d k) → IsEntry d f (get_or (table_of d k) j 0))
            ⊎ IsFirst (λ (j : ℕ). IsEntry d f (get_or (table_of d k) j 0)) (λ (j : ℕ). IsWrong f (get_or (table_of d k) j 0)) (length (table_of d k))
            → IsTable d f (table_of d k) ⊎ HasFault
        go (inl all) = inl (table_from d f (table_of d k) long (All-from_get_or (IsEntry d f) (table_of d k) 0 all))
        go (inr first) = inr (wrong first.place (turn first.place first.within first.before) first.here)

    -- the table of a function, if there is one of that number
    judged_table : (k : ℕ) → AreTablesBefore s d k → (o : Option FunDecl) → slice_get s.functions k ≡ o
        → ((f : FunDecl) → slice_get s.functions k ≡ Some f → IsTable d f (table_of d k)) ⊎ HasFault
    judged_table k before None none = inl (λ f known. absurd (let both = sym none ∙ known in cc))
    judged_table k before (Some f) here = go (cases_eq (length (table_of d k)) (size_of d f.source))
      where
        go : (length (table_of d k) ≡ size_of d f.source) ⊎ (length (table_of d k) ≡ size_of d f.source → ⊥)
            → ((g : FunDecl) → slice_get s.functions k ≡ Some g → IsTable d g (table_of d k)) ⊎ HasFault
        go (inr n) = inr (WrongLength Table k, (f, record { lengths = lengths; before = before; here = here }, n))
        go (inl long) = table_or (judged_entries k f before here long)
          where
            table_or : IsTable d f (table_of d k) ⊎ HasFault → ((g : FunDecl) → slice_get s.functions k ≡ Some g → IsTable d g (table_of d k)) ⊎ HasFault
            table_or (inl table) = inl (λ g there. subst (λ (q : FunDecl). IsTable d q (table_of d k)) (same_Some f g (sym here ∙ there)) table)
            table_or (inr fault) = inr fault

    judged_tables : (n : ℕ) → AreTablesBefore s d n ⊎ HasFault
    judged_tables zero = inl (λ j f lt known. absurd (omega arith))
    judged_tables (suc n) = go (judged_tables n)
      where
        more : AreTablesBefore s d n → ((f : FunDecl) → slice_get s.functions n ≡ Some f → IsTable d f (table_of d n)) ⊎ HasFault → AreTablesBefore s d (suc n) ⊎ HasFault
        more before (inl table) = inl (λ j f lt known. below_more (λ (i : ℕ). (e : FunDecl) → slice_get s.functions i ≡ Some e → IsTable d e (table_of d i)) n
            (λ i below e there. before i e below there) table j (rw add-one lt) f known)
        more before (inr fault) = inr fault

        go : AreTablesBefore s d n ⊎ HasFault → AreTablesBefore s d (suc n) ⊎ HasFault
        go (inl before) = more before (judged_table n before (slice_get s.functions n) refl)
        go (inr fault) = inr fault

    judged_clash : (c e : SortId) (first second : ℕ) → first < second → slice_get s.constants first ≡ Some c → slice_get s.constants second ≡ Some e
        → (IsClash s d first second → ⊥) ⊎ IsClash s d first second
    judged_clash c e first second lt known there = go (cases_eq c.n e.n) (cases_eq (constant_of d first) (constant_of d second))
      where
        go : (c.n ≡ e.n) ⊎ (c.n ≡ e.n → ⊥) → (constant_of d first ≡ constant_of d second) ⊎ (constant_of d first ≡ constant_of d second → ⊥)
            → (IsClash s d first second → ⊥) ⊎ IsClash s d first second
        go (inr ne) v = inl (λ h. ne (ap (λ (q : SortId). q.n) (same_Some c h.sort (sym known ∙ h.first_sort) ∙ sym (same_Some e h.sort (sym there ∙ h.second_sort)))))
        go (inl same) (inr ne) = inl (λ h. ne h.same)
        go (inl same) (inl value) = inr (record {
          earlier = lt;
          sort = e;
          second_sort = there;
          same = value;
          first_sort = known ∙ ap (λ (n : ℕ). Some (record { n = n })) same;
        })

    judged_clash_at : (e : SortId) (second : ℕ) → slice_get s.constants second ≡ Some e → (first : ℕ) → (IsClash s d first second → ⊥) ⊎ IsClash s d first second
    judged_clash_at e second there first = go (cases_lt first second) (slice_get s.constants first) refl
      where
        go : (first < second) ⊎ (second ≤ first) → (o : Option SortId) → slice_get s.constants first ≡ o → (IsClash s d first second → ⊥) ⊎ IsClash s d first second
        go (inr le) o known = inl (λ h. let lt : first < second = h.earlier in omega (arith, lt))
        go (inl lt) None none = inl (λ h. let both = sym none ∙ h.first_sort in cc)
        go (inl lt) (Some c) known = judged_clash c e first second lt known there

    judged_constant : (c : SortId) (x : ℕ) → IsConstant d c x ⊎ (IsConstant d c x → ⊥)
    judged_constant c x = go (cases_lt 0 x) (cases_lt (size_of d c) x)
      where
        go : (0 < x) ⊎ (x ≤ 0) → (size_of d c < x) ⊎ (x ≤ size_of d c) → IsConstant d c x ⊎ (IsConstant d c x → ⊥)
        go (inr le) l = inr (λ h. let lt : 0 < x = h.defined in omega (arith, lt))
        go (inl lt) (inl over) = inr (λ h. let le : x ≤ size_of d c = h.in_sort in omega (arith, le))
        go (inl lt) (inr le) = inl (record { defined = lt; in_sort = le })

    module _ (tables : AreTablesBefore s d (length s.functions)) where
      one_constant : (n : ℕ) (c : SortId) → AreConstantsBefore s d n → slice_get s.constants n ≡ Some c → AreConstantsBefore s d (n + 1) ⊎ HasFault
      one_constant n c before here = go (judged_constant c (constant_of d n)) (all_or_first (λ (j : ℕ). IsClash s d j n → ⊥) (λ (j : ℕ). IsClash s d j n) (judged_clash_at c n here) n)
        where
          turn : IsConstantTurn s d n c
          turn = record { lengths = lengths; tables = tables; before = before; here = here }

          go : IsConstant d c (constant_of d n) ⊎ (IsConstant d c (constant_of d n) → ⊥)
              → ((j : ℕ) → j < n → IsClash s d j n → ⊥) ⊎ IsFirst (λ (j : ℕ). IsClash s d j n → ⊥) (λ (j : ℕ). IsClash s d j n) n → AreConstantsBefore s d (n + 1) ⊎ HasFault
          go (inr none) e = inr (OutOfRange Constants n 0, (c, turn, refl, none))
          go (inl is) (inl apart) = inl (constants_more s d n c before here is (λ j h. apart j h.earlier h))
          go (inl is) (inr first) = inr (ConstantClash (record { n = first.place }) (record { n = n }), (c, turn, is, first.here))

      judged_constants : (n : ℕ) → AreConstantsBefore s d n ⊎ HasFault
      judged_constants zero = inl (record { each = λ j c lt known. absurd (omega arith); apart = λ i j lt clash. absurd (omega arith) })
      judged_constants (suc n) = go (judged_constants n) (slice_get s.constants n) refl
        where
          go : AreConstantsBefore s d n ⊎ HasFault → (o : Option SortId) → slice_get s.constants n ≡ o → AreConstantsBefore s d (suc n) ⊎ HasFault
          go (inr fault) o known = inr fault
          go (inl before) (Some c) here = rw (← add-one) (one_constant n c before here)
          go (inl before) None none = inl (record {
            each = λ j c lt known. below_more (λ (i : ℕ). (g : SortId) → slice_get s.constants i ≡ Some g → IsConstant d g (constant_of d i)) n
                (λ i below g there. before.each i g below there) (λ g there. absurd (let both = sym none ∙ there in cc)) j (rw add-one lt) c known;
            apart = λ i j lt clash. below_more (λ (m : ℕ). IsClash s d i m → ⊥) n (λ m below. before.apart i m below)
                (λ h. let both = sym none ∙ h.second_sort in cc) j (rw add-one lt) clash;
          })

  pub judged : IsDatabase s d ⊎ HasFault
  judged = go judged_lengths
    where
      last : (lengths : HasLengths s d) (tables : AreTablesBefore s d (length s.functions)) → AreConstantsBefore s d (length s.constants) ⊎ HasFault → IsDatabase s d ⊎ HasFault
      last lengths tables (inl constants) = inl (database_from s d lengths tables constants)
      last lengths tables (inr fault) = inr fault

      then : (lengths : HasLengths s d) → AreTablesBefore s d (length s.functions) ⊎ HasFault → IsDatabase s d ⊎ HasFault
      then lengths (inl tables) = last lengths tables (judged_constants lengths tables (length s.constants))
      then lengths (inr fault) = inr fault

      go : HasLengths s d ⊎ HasFault → IsDatabase s d ⊎ HasFault
      go (inl lengths) = then lengths (judged_tables lengths (length s.functions))
      go (inr fault) = inr fault

  pub fault_of : (IsDatabase s d → ⊥) → HasFault
  fault_of none = go judged
    where
      go : IsDatabase s d ⊎ HasFault → HasFault
      go (inl is) = absurd (none is)
      go (inr fault) = fault
