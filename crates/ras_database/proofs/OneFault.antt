-- No two faults of numbers are the first.
use Rattle.std.proofs.Common.{◌≡◌, ℕ, zero, suc, ◌+◌, ◌-◌, ◌<◌, ◌≤◌, true, List, length, get_or, take, refl, sym, ◌∙◌, ap, subst, arith, ◌⊎◌, inl, inr}
use Rattle.std.specs.Prelude.{slice_get, Some, All, ⊤}
use Rattle.std.proofs.lemmas.Option.{same_Some, slice_get_within}
use Rattle.std.proofs.lemmas.Bool.{cases_order}
use Rattle.std.proofs.lemmas.List.{length-take-le, get_or-take}
use Rattle.ras_logic.specs.declared.ids.SortId.{SortId}
use Rattle.ras_logic.specs.declared.ids.FunId.{FunId}
use Rattle.ras_logic.specs.declared.ids.ConstId.{ConstId}
use Rattle.ras_logic.specs.declared.function.FunDecl.{FunDecl}
use Rattle.ras_logic.specs.declared.raw_db.RawDb.{RawDb}
use Rattle.ras_logic.specs.Schemas.{SchemaParts}
use Rattle.ras_logic.specs.Databases.{size_of, image, constant_of, IsTable}
use Rattle.ras_database.specs.declared.db_fault.Part.{Part}
use Rattle.ras_database.specs.declared.db_fault.Part.TheVariants.{Sizes, Tables, Table, Constants}
use Rattle.ras_database.specs.declared.db_fault.DbFault.{DbFault}
use Rattle.ras_database.specs.declared.db_fault.DbFault.TheVariants.{WrongLength, OutOfRange, UndefImage, ConstantClash}
use Rattle.ras_database.specs.DatabaseFaults.{HasLengths, table_of, IsEntry, AreTablesBefore, IsTurn, IsEntryTurn, IsConstant, IsClash, AreConstantsBefore, IsConstantTurn, IsDatabaseFault}

-- the place of a fault in the order
abbrev rank : DbFault → ℕ
rank (WrongLength Sizes place) = 0
rank (WrongLength Tables place) = 1
rank (WrongLength Constants place) = 2
rank (WrongLength Table place) = 3
rank (OutOfRange Table place at) = 3
rank (UndefImage f at) = 3
rank (OutOfRange Constants place at) = 4
rank (ConstantClash first second) = 4
rank (OutOfRange Sizes place at) = 5
rank (OutOfRange Tables place at) = 6

module _ (s : SchemaParts) (d : RawDb) where
  -- a table that is none, the first of them
  record BadTable (k : ℕ) : Type 0 where
    decl : FunDecl
    turn : IsTurn s d k decl
    none : IsTable d decl (table_of d k) → ⊥

  -- an entry that is none, the first of its table
  record BadEntry (k at : ℕ) : Type 0 where
    decl : FunDecl
    turn : IsEntryTurn s d k at decl
    none : IsEntry d decl (image d k at) → ⊥

  entry_of : (k at : ℕ) (f : FunDecl) → 0 < at → at ≤ length (table_of d k) → IsTable d f (table_of d k) → IsEntry d f (image d k at)
  entry_of k zero f some within table = absurd (omega arith)
  entry_of k (suc j) f some within table = record { in_target = table.in_target j (omega arith); total = λ t. table.total t j (omega arith) }

  bad_table : (k at : ℕ) → BadEntry k at → BadTable k
  bad_table k at bad = record { decl = bad.decl; turn = bad.turn.turn; none = λ table. bad.none (entry_of k at bad.decl bad.turn.element bad.turn.within table) }

  out_of_range : (k at : ℕ) (f : FunDecl) → IsEntryTurn s d k at f → size_of d f.target < image d k at → BadEntry k at
  out_of_range k at f turn over = record { decl = f; turn = turn; none = λ entry. let le = entry.in_target in omega (arith, over, le) }

  undef_image : (k at : ℕ) (f : FunDecl) → IsEntryTurn s d k at f → f.total ≡ true → image d k at ≡ 0 → BadEntry k at
  undef_image k at f turn total is_undef = record { decl = f; turn = turn; none = λ entry. let some = entry.total total in omega (arith, is_undef, some) }

  same_table : (k j : ℕ) → BadTable k → BadTable j → k ≡ j
  same_table k j a b = go (cases_order k j)
    where
      go : (k ≡ j) ⊎ ((k < j) ⊎ (j < k)) → k ≡ j
      go (inl e) = e
      go (inr (inl lt)) = absurd (a.none (b.turn.before k a.decl lt a.turn.here))
      go (inr (inr lt)) = absurd (b.none (a.turn.before j b.decl lt b.turn.here))

  entry_before : (k at b : ℕ) (f : FunDecl) → 0 < at → at < b → IsEntryTurn s d k b f → IsEntry d f (image d k at)
  entry_before k zero b f some lt turn = absurd (omega arith)
  entry_before k (suc j) b f some lt turn =
      let within : b ≤ length (table_of d k) = turn.within in
      let low : j < b - 1 = omega arith in
      let shorter : j < length (take (b - 1) (table_of d k)) = rw (length-take-le (b - 1) (table_of d k) (omega arith)) low in
      subst (IsEntry d f) (get_or-take (b - 1) (table_of d k) j 0 low) (turn.entries j 0 shorter)

  same_decl : (k : ℕ) (f g : FunDecl) → IsTurn s d k f → IsTurn s d k g → f ≡ g
  same_decl k f g a b = same_Some f g (sym a.here ∙ b.here)

  same_entry : (k at b : ℕ) → BadEntry k at → BadEntry k b → at ≡ b
  same_entry k at b x y = go (cases_order at b)
    where
      same : x.decl ≡ y.decl
      same = same_decl k x.decl y.decl x.turn.turn y.turn.turn

      go : (at ≡ b) ⊎ ((at < b) ⊎ (b < at)) → at ≡ b
      go (inl e) = e
      go (inr (inl lt)) = absurd (x.none (subst (λ (f : FunDecl). IsEntry d f (image d k at)) (sym same) (entry_before k at b y.decl x.turn.element lt y.turn)))
      go (inr (inr lt)) = absurd (y.none (subst (λ (f : FunDecl). IsEntry d f (image d k b)) same (entry_before k b at x.decl y.turn.element lt x.turn)))

  wrong_length : (k : ℕ) (f : FunDecl) → IsTurn s d k f → (length (table_of d k) ≡ size_of d f.source → ⊥) → BadTable k
  wrong_length k f turn wrong = record { decl = f; turn = turn; none = λ table. wrong table.as_long }

  -- a table of a wrong length has no entry that is the first to be wrong
  no_entry : (k j at : ℕ) (f : FunDecl) → IsTurn s d k f → (length (table_of d k) ≡ size_of d f.source → ⊥) → BadEntry j at → ⊥
  no_entry k j at f turn wrong bad =
      let place : j ≡ k = same_table j k (bad_table j at bad) (wrong_length k f turn wrong) in
      let there : IsTurn s d k bad.decl = subst (λ (i : ℕ). IsTurn s d i bad.decl) place bad.turn.turn in
      let long : length (table_of d k) ≡ size_of d bad.decl.source = subst (λ (i : ℕ). length (table_of d i) ≡ size_of d bad.decl.source) place bad.turn.as_long in
      wrong (long ∙ ap (λ (g : FunDecl). size_of d g.source) (same_decl k bad.decl f there turn))

  -- a constant that is none, or is an earlier one, the first of them
  record BadConstant (k : ℕ) : Type 0 where
    sort : SortId
    turn : IsConstantTurn s d k sort
    none : AreConstantsBefore s d (k + 1) → ⊥

  fewer : (k j : ℕ) → k < j → AreConstantsBefore s d j → AreConstantsBefore s d (k + 1)
  fewer k j lt are = record { each = λ i c below known. are.each i c (omega arith) known; apart = λ i l below clash. are.apart i l (omega arith) clash }

  same_constant : (k j : ℕ) → BadConstant k → BadConstant j → k ≡ j
  same_constant k j a b = go (cases_order k j)
    where
      go : (k ≡ j) ⊎ ((k < j) ⊎ (j < k)) → k ≡ j
      go (inl e) = e
      go (inr (inl lt)) = absurd (a.none (fewer k j lt b.turn.before))
      go (inr (inr lt)) = absurd (b.none (fewer j k lt a.turn.before))

  no_constant : (k : ℕ) (c : SortId) → IsConstantTurn s d k c → (IsConstant d c (constant_of d k) → ⊥) → BadConstant k
  no_constant k c turn wrong = record { sort = c; turn = turn; none = λ are. wrong (are.each k c (omega arith) turn.here) }

  clashing : (i k : ℕ) (c : SortId) → IsConstantTurn s d k c → IsClash s d i k → BadConstant k
  clashing i k c turn clash = record { sort = c; turn = turn; none = λ are. are.apart i k (omega arith) clash }

  between : (i j k : ℕ) → IsClash s d i k → IsClash s d j k → i < j → IsClash s d i j
  between i j k a b lt =
      let one = same_Some a.sort b.sort (sym a.second_sort ∙ b.second_sort) in
      record { earlier = lt; sort = b.sort; first_sort = a.first_sort ∙ ap Some one; second_sort = b.first_sort; same = a.same ∙ sym b.same }

  same_clash : (i j k : ℕ) → AreConstantsBefore s d k → IsClash s d i k → IsClash s d j k → i ≡ j
  same_clash i j k are a b = go (cases_order i j)
    where
      go : (i ≡ j) ⊎ ((i < j) ⊎ (j < i)) → i ≡ j
      go (inl e) = e
      go (inr (inl lt)) = absurd (are.apart i j b.earlier (between i j k a b lt))
      go (inr (inr lt)) = absurd (are.apart j i a.earlier (between j i k b a lt))

  -- a constant that is none is no clash
  none_or_clash : (k i j : ℕ) (c e : SortId) → IsConstantTurn s d k c → (IsConstant d c (constant_of d k) → ⊥) → IsConstantTurn s d j e → IsConstant d e (constant_of d j) → IsClash s d i j → ⊥
  none_or_clash k i j c e turn wrong turn_too is clash =
      let place : j ≡ k = same_constant j k (clashing i j e turn_too clash) (no_constant k c turn wrong) in
      let here : slice_get s.constants k ≡ Some e = subst (λ (l : ℕ). slice_get s.constants l ≡ Some e) place turn_too.here in
      let sort : e ≡ c = same_Some e c (sym here ∙ turn.here) in
      wrong (subst (λ (q : SortId). IsConstant d q (constant_of d k)) sort (subst (λ (l : ℕ). IsConstant d e (constant_of d l)) place is))

  -- what stands where the fault at that place does not
  abbrev Stands : ℕ → Type 0
  Stands zero = length d.sizes ≡ s.sorts
  Stands (suc zero) = length d.tables ≡ length s.functions
  Stands (suc (suc zero)) = length d.constants ≡ length s.constants
  Stands (suc (suc (suc zero))) = AreTablesBefore s d (length s.functions)
  Stands (suc (suc (suc (suc n)))) = ⊤

  lengths_stand : HasLengths s d → (j : ℕ) → j < 3 → Stands j
  lengths_stand h zero lt = h.sizes
  lengths_stand h (suc zero) lt = h.tables
  lengths_stand h (suc (suc zero)) lt = h.constants
  lengths_stand h (suc (suc (suc j))) lt = absurd (omega arith)

  tables_stand : HasLengths s d → AreTablesBefore s d (length s.functions) → (j : ℕ) → j < 4 → Stands j
  tables_stand h tables zero lt = h.sizes
  tables_stand h tables (suc zero) lt = h.tables
  tables_stand h tables (suc (suc zero)) lt = h.constants
  tables_stand h tables (suc (suc (suc zero))) lt = tables
  tables_stand h tables (suc (suc (suc (suc j)))) lt = absurd (omega arith)

  passed : (f : DbFault) → IsDatabaseFault s d f → (j : ℕ) → j < rank f → Stands j
  passed (WrongLength Sizes place) h j lt = absurd (omega arith)
  passed (WrongLength Tables place) h zero lt = h.1
  passed (WrongLength Tables place) h (suc j) lt = absurd (omega arith)
  passed (WrongLength Constants place) h zero lt = h.1
  passed (WrongLength Constants place) h (suc zero) lt = h.2
  passed (WrongLength Constants place) h (suc (suc j)) lt = absurd (omega arith)
  passed (WrongLength Table place) h j lt = lengths_stand h.1.lengths j lt
  passed (OutOfRange Table place at) h j lt = lengths_stand h.1.turn.lengths j lt
  passed (UndefImage f at) h j lt = lengths_stand h.1.turn.lengths j lt
  passed (OutOfRange Constants place at) h j lt = tables_stand h.1.lengths h.1.tables j lt
  passed (ConstantClash first second) h j lt = tables_stand h.1.lengths h.1.tables j lt
  passed (OutOfRange Sizes place at) h j lt = absurd h
  passed (OutOfRange Tables place at) h j lt = absurd h

  no_tables : (k : ℕ) → BadTable k → AreTablesBefore s d (length s.functions) → ⊥
  no_tables k bad tables = bad.none (tables k bad.decl (slice_get_within s.functions k bad.decl bad.turn.here) bad.turn.here)

  -- a fault of the lengths or the tables does not let all stand at its place
  failed : (f : DbFault) → IsDatabaseFault s d f → rank f < 4 → Stands (rank f) → ⊥
  failed (WrongLength Sizes place) h low stands = h.1 stands
  failed (WrongLength Tables place) h low stands = h.2 stands
  failed (WrongLength Constants place) h low stands = h.3 stands
  failed (WrongLength Table place) h low stands = no_tables place (wrong_length place h.0 h.1 h.2) stands
  failed (OutOfRange Table place at) h low stands = no_tables place (bad_table place at (out_of_range place at h.0 h.1 h.2)) stands
  failed (UndefImage f at) h low stands = no_tables f.n (bad_table f.n at (undef_image f.n at h.0 h.1 h.2 h.3)) stands
  failed (OutOfRange Constants place at) h low stands = absurd (omega arith)
  failed (ConstantClash first second) h low stands = absurd (omega arith)
  failed (OutOfRange Sizes place at) h low stands = h
  failed (OutOfRange Tables place at) h low stands = h

  at_most : (f : DbFault) → IsDatabaseFault s d f → rank f ≤ 4
  at_most (WrongLength Sizes place) h = omega arith
  at_most (WrongLength Tables place) h = omega arith
  at_most (WrongLength Constants place) h = omega arith
  at_most (WrongLength Table place) h = omega arith
  at_most (OutOfRange Table place at) h = omega arith
  at_most (UndefImage f at) h = omega arith
  at_most (OutOfRange Constants place at) h = omega arith
  at_most (ConstantClash first second) h = omega arith
  at_most (OutOfRange Sizes place at) h = absurd h
  at_most (OutOfRange Tables place at) h = absurd h

  at_least : (part : Part) (place at : ℕ) → IsDatabaseFault s d (OutOfRange part place at) → 3 ≤ rank (OutOfRange part place at)
  at_least Sizes place at h = absurd h
  at_least Tables place at h = absurd h
  at_least Table place at h = omega arith
  at_least Constants place at h = omega arith

  length_at_most : (part : Part) (place : ℕ) → rank (WrongLength part place) ≤ 3
  length_at_most Sizes place = omega arith
  length_at_most Tables place = omega arith
  length_at_most Table place = omega arith
  length_at_most Constants place = omega arith

  same_rank : (f g : DbFault) → IsDatabaseFault s d f → IsDatabaseFault s d g → rank f ≡ rank g
  same_rank f g hf hg = go (cases_order (rank f) (rank g))
    where
      go : (rank f ≡ rank g) ⊎ ((rank f < rank g) ⊎ (rank g < rank f)) → rank f ≡ rank g
      go (inl e) = e
      go (inr (inl lt)) = absurd (failed f hf (let le = at_most g hg in omega (arith, le, lt)) (passed g hg (rank f) lt))
      go (inr (inr lt)) = absurd (failed g hg (let le = at_most f hf in omega (arith, le, lt)) (passed f hf (rank g) lt))

  same_length_fault : (part : _) (p q : ℕ) → p ≡ 0 → q ≡ 0 → WrongLength part p ≡ WrongLength part q
  same_length_fault part p q e f = ap (WrongLength part) (e ∙ sym f)

  same_entry_place : (k j at b : ℕ) → BadEntry k at → BadEntry j b → (k ≡ j) × (at ≡ b)
  same_entry_place k j at b x y =
      let place = same_table k j (bad_table k at x) (bad_table j b y) in
      (place, same_entry k at b x (subst (λ (i : ℕ). BadEntry i b) (sym place) y))

  -- an image beyond the target is not undef
  no_both : (k j at b : ℕ) (f g : FunDecl) → IsEntryTurn s d k at f → size_of d f.target < image d k at → IsEntryTurn s d j b g → g.total ≡ true → image d j b ≡ 0 → ⊥
  no_both k j at b f g turn over turn_too total is_undef =
      let places = same_entry_place k j at b (out_of_range k at f turn over) (undef_image j b g turn_too total is_undef) in
      let image_is : image d k at ≡ 0 = ap (λ (i : ℕ). image d i at) places.0 ∙ ap (image d j) places.1 ∙ is_undef in
      omega (arith, over, image_is)

  pub one_fault : (f g : DbFault) → IsDatabaseFault s d f → IsDatabaseFault s d g → f ≡ g
  one_fault f g hf hg = one f g hf hg (same_rank f g hf hg)
    where
      one : (f g : DbFault) → IsDatabaseFault s d f → IsDatabaseFault s d g → rank f ≡ rank g → f ≡ g
      one (OutOfRange Sizes p a) g hf hg e = absurd hf
      one (OutOfRange Tables p a) g hf hg e = absurd hf
      one (OutOfRange Constants p a) (WrongLength part q) hf hg e = absurd (let le = length_at_most part q in omega (arith, e, le))
      one (ConstantClash i j) (WrongLength part q) hf hg e = absurd (let le = length_at_most part q in omega (arith, e, le))
      one (WrongLength Sizes p) (OutOfRange part q b) hf hg e = absurd (let le = at_least part q b hg in omega (arith, e, le))
      one (WrongLength Tables p) (OutOfRange part q b) hf hg e = absurd (let le = at_least part q b hg in omega (arith, e, le))
      one (WrongLength Constants p) (OutOfRange part q b) hf hg e = absurd (let le = at_least part q b hg in omega (arith, e, le))
      one (WrongLength Sizes p) (WrongLength Sizes q) hf hg e = same_length_fault Sizes p q hf.0 hg.0
      one (WrongLength Tables p) (WrongLength Tables q) hf hg e = same_length_fault Tables p q hf.0 hg.0
      one (WrongLength Constants p) (WrongLength Constants q) hf hg e = same_length_fault Constants p q hf.0 hg.0
      one (WrongLength Table p) (WrongLength Table q) hf hg e =
          ap (WrongLength Table) (same_table p q (wrong_length p hf.0 hf.1 hf.2) (wrong_length q hg.0 hg.1 hg.2))
      one (WrongLength Table p) (OutOfRange Table q b) hf hg e = absurd (no_entry p q b hf.0 hf.1 hf.2 (out_of_range q b hg.0 hg.1 hg.2))
      one (WrongLength Table p) (UndefImage g b) hf hg e = absurd (no_entry p g.n b hf.0 hf.1 hf.2 (undef_image g.n b hg.0 hg.1 hg.2 hg.3))
      one (OutOfRange Table p a) (WrongLength Table q) hf hg e = absurd (no_entry q p a hg.0 hg.1 hg.2 (out_of_range p a hf.0 hf.1 hf.2))
      one (UndefImage f a) (WrongLength Table q) hf hg e = absurd (no_entry q f.n a hg.0 hg.1 hg.2 (undef_image f.n a hf.0 hf.1 hf.2 hf.3))
      one (OutOfRange Table p a) (OutOfRange Table q b) hf hg e =
          let places = same_entry_place p q a b (out_of_range p a hf.0 hf.1 hf.2) (out_of_range q b hg.0 hg.1 hg.2) in
          ap (λ (i : ℕ). OutOfRange Table i a) places.0 ∙ ap (OutOfRange Table q) places.1
      one (UndefImage f a) (UndefImage g b) hf hg e =
          let places = same_entry_place f.n g.n a b (undef_image f.n a hf.0 hf.1 hf.2 hf.3) (undef_image g.n b hg.0 hg.1 hg.2 hg.3) in
          ap (λ (i : ℕ). UndefImage (record { n = i }) a) places.0 ∙ ap (UndefImage g) places.1
      one (OutOfRange Table p a) (UndefImage g b) hf hg e = absurd (no_both p g.n a b hf.0 hg.0 hf.1 hf.2 hg.1 hg.2 hg.3)
      one (UndefImage f a) (OutOfRange Table q b) hf hg e = absurd (no_both q f.n b a hg.0 hf.0 hg.1 hg.2 hf.1 hf.2 hf.3)
      one (OutOfRange Constants p a) (OutOfRange Constants q b) hf hg e =
          ap (λ (i : ℕ). OutOfRange Constants i a) (same_constant p q (no_constant p hf.0 hf.1 hf.3) (no_constant q hg.0 hg.1 hg.3))
          ∙ ap (OutOfRange Constants q) (hf.2 ∙ sym hg.2)
      one (OutOfRange Constants p a) (ConstantClash i j) hf hg e = absurd (none_or_clash p i.n j.n hf.0 hg.0 hf.1 hf.3 hg.1 hg.2 hg.3)
      one (ConstantClash i j) (OutOfRange Constants q b) hf hg e = absurd (none_or_clash q i.n j.n hg.0 hf.0 hg.1 hg.3 hf.1 hf.2 hf.3)
      one (ConstantClash i k) (ConstantClash j l) hf hg e =
          let seconds = same_constant k.n l.n (clashing i.n k.n hf.0 hf.1 hf.3) (clashing j.n l.n hg.0 hg.1 hg.3) in
          let firsts = same_clash i.n j.n k.n hf.1.before hf.3 (subst (λ (m : ℕ). IsClash s d j.n m) (sym seconds) hg.3) in
          ap (λ (m : ℕ). ConstantClash (record { n = m }) k) firsts ∙ ap (λ (m : ℕ). ConstantClash j (record { n = m })) seconds
      one f g hf hg e = absurd (omega (arith, e))
