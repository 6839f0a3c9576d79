-- The steps of the loops that look for a fault.
use Rattle.std.proofs.Common.{◌≡◌, ℕ, zero, suc, ◌+◌, ◌<◌, ◌≤◌, true, List, [], length, get_or, take, refl, sym, ◌∙◌, ap, subst, arith, below_more, ◌⊎◌, inl, inr, ⊎_elim}
use Rattle.std.specs.Prelude.{slice_get, Some, All}
use Rattle.std.proofs.lemmas.Option.{same_Some, slice_get_within}
use Rattle.std.proofs.lemmas.Bool.{cases_lt, cases_order}
use Rattle.ras_logic.specs.declared.ids.SortId.{SortId}
use Rattle.ras_logic.specs.declared.function.FunDecl.{FunDecl}
use Rattle.ras_logic.specs.declared.raw_db.RawDb.{RawDb}
use Rattle.ras_logic.specs.Schemas.{SchemaParts}
use Rattle.ras_logic.specs.Databases.{size_of, IsElement, constant_of, IsTable, IsDatabase}
use Rattle.ras_database.specs.DatabaseFaults.{HasLengths, table_of, IsEntry, AreTablesBefore, IsConstant, IsClash, AreConstantsBefore}

-- a table of which each entry is right
pub table_from : (d : RawDb) (f : FunDecl) (table : List ℕ) → length table ≡ size_of d f.source → All (IsEntry d f) table → IsTable d f table
table_from d f table long all = record { as_long = long; in_target = λ k lt. (all k 0 lt).in_target; total = λ t k lt. (all k 0 lt).total t }

module _ (s : SchemaParts) (d : RawDb) where
  -- one table more
  pub tables_more : (k : ℕ) (f : FunDecl) → AreTablesBefore s d k → slice_get s.functions k ≡ Some f → IsTable d f (table_of d k) → AreTablesBefore s d (k + 1)
  tables_more k f before here table = λ j g lt known.
      below_more (λ (i : ℕ). (e : FunDecl) → slice_get s.functions i ≡ Some e → IsTable d e (table_of d i)) k
      (λ i below e there. before i e below there)
      (λ e there. subst (λ (q : FunDecl). IsTable d q (table_of d k)) (same_Some f e (sym here ∙ there)) table) j lt g known

  -- one constant more
  pub constants_more : (k : ℕ) (c : SortId) → AreConstantsBefore s d k → slice_get s.constants k ≡ Some c → IsConstant d c (constant_of d k)
      → ((j : ℕ) → IsClash s d j k → ⊥) → AreConstantsBefore s d (k + 1)
  constants_more k c before here constant apart = record {
    each = λ j e lt known. below_more (λ (i : ℕ). (g : SortId) → slice_get s.constants i ≡ Some g → IsConstant d g (constant_of d i)) k
        (λ i below g there. before.each i g below there)
        (λ g there. subst (λ (q : SortId). IsConstant d q (constant_of d k)) (same_Some c g (sym here ∙ there)) constant) j lt e known;
    apart = λ i j lt clash. below_more (λ (m : ℕ). IsClash s d i m → ⊥) k (λ m below. before.apart i m below) (apart i) j lt clash;
  }

  -- what has passed all is a database
  pub database_from : HasLengths s d → AreTablesBefore s d (length s.functions) → AreConstantsBefore s d (length s.constants) → IsDatabase s d
  database_from lengths tables constants = record {
    sizes = lengths.sizes;
    tables = lengths.tables;
    each_table = λ k f known. tables k f (slice_get_within s.functions k f known) known;
    constants = lengths.constants;
    each_constant = λ k c known. let e = constants.each k c (slice_get_within s.constants k c known) known in (e.defined, e.in_sort);
    apart = λ j k c known_j known_k same. go j k c known_j known_k same (cases_order j k);
  }
    where
      go : (j k : ℕ) (c : SortId) → slice_get s.constants j ≡ Some c → slice_get s.constants k ≡ Some c → constant_of d j ≡ constant_of d k
          → (j ≡ k) ⊎ ((j < k) ⊎ (k < j)) → j ≡ k
      go j k c known_j known_k same (inl e) = e
      go j k c known_j known_k same (inr (inl lt)) = absurd (constants.apart j k (slice_get_within s.constants k c known_k)
          (record { earlier = lt; sort = c; first_sort = known_j; second_sort = known_k; same = same }))
      go j k c known_j known_k same (inr (inr lt)) = absurd (constants.apart k j (slice_get_within s.constants j c known_j)
          (record { earlier = lt; sort = c; first_sort = known_k; second_sort = known_j; same = sym same }))
