-- Tests of schemas, databases and formulas, and what it means that they pass.
use Rattle.std.proofs.Common.{◌≡◌, ℕ, zero, suc, ◌+◌, ◌<◌, Bool, true, false, List, [], ◌∷◌, length, get_or, take, refl, sym, ap, subst, arith, nat_eq, nat_lt, ⊎_elim}
use Rattle.std.specs.Prelude.{Option, Some, None, All, not, ◌&&◌, ◌||◌, nat_le}
use Rattle.std.specs.List.{list_all}
use Rattle.std.proofs.lemmas.Option.{slice_get-get_or}
use Rattle.std.proofs.lemmas.Bool.{eqb-true, ltb-true, leb-true, and_parts, cases_lt}
use Rattle.ras_logic.specs.declared.ids.SortId.{SortId}
use Rattle.ras_logic.specs.declared.ids.RelId.{RelId}
use Rattle.ras_logic.specs.declared.function.FunDecl.{FunDecl}
use Rattle.ras_logic.specs.declared.term.Base.{Base}
use Rattle.ras_logic.specs.declared.term.Base.TheVariants.{Param}
use Rattle.ras_logic.specs.declared.literal.Literal.{Literal}
use Rattle.ras_logic.specs.declared.literal.Literal.TheVariants.{Equal}
use Rattle.ras_logic.specs.declared.problem.Problem.{Problem}
use Rattle.ras_logic.specs.declared.raw_db.RawDb.{RawDb}
use Rattle.ras_logic.specs.declared.values.Values.{Values}
use Rattle.ras_logic.specs.Schemas.{SchemaParts, IsSort, HasSorts, IsSchema}
use Rattle.ras_logic.specs.Shapes.{ShapeParts, IsShape, IsRelation}
use Rattle.ras_logic.specs.Databases.{size_of, constant_of, IsTable, IsDatabase}
use Rattle.ras_logic.specs.Terms.{sort_of}
use Rattle.ras_logic.specs.Formulas.{LiteralFits, Fits, IsNoParam, HasNoParam, IsCube}
use Rattle.ras_logic.specs.Truth.{holds, AllHold, AreElements, AreValues, Satisfies}
use Rattle.ras_logic.proofs.Walks.{lead, AreOpen, open_more, all_open}
use Rattle.ras_vectors.proofs.ListTests.{each, each-at, list_all-All, unless, are_apart, are_apart-different}

-- schemas and shapes
abbrev pub is_sort : ℕ → SortId → Bool
is_sort sorts s = nat_lt s.n sorts

pub are_sorts : (sorts : ℕ) (xs : List SortId) → list_all (is_sort sorts) xs ≡ true → All (IsSort sorts) xs
are_sorts sorts = list_all-All (is_sort sorts) (IsSort sorts) (λ s h. ltb-true s.n sorts h)

abbrev has_sorts : ℕ → FunDecl → Bool
has_sorts sorts f = is_sort sorts f.source && is_sort sorts f.target

-- whether the function of this number closes a cycle with those before it; there is one in any place that is asked for
abbrev closes : List FunDecl → ℕ → ℕ → Bool
closes functions sorts n =
    let f = get_or functions n (record { source = record { n = 0 }; target = record { n = 0 }; total = true }) in lead (take n functions) sorts f.target.n f.source.n

-- none of the first n functions closes a cycle
abbrev none_closes : List FunDecl → ℕ → ℕ → Bool
none_closes functions sorts zero = true
none_closes functions sorts (suc n) = not (closes functions sorts n) && none_closes functions sorts n

are_open : (functions : List FunDecl) (sorts n : ℕ) → none_closes functions sorts n ≡ true → AreOpen functions sorts n
are_open functions sorts zero h = λ j d lt at. absurd (omega (arith, lt))
are_open functions sorts (suc n) h =
    let t = and_parts (not (closes functions sorts n)) (none_closes functions sorts n) h in
    let next : n + 1 ≡ suc n = omega arith in
    subst (AreOpen functions sorts) next (open_more functions sorts n _ (are_open functions sorts n t.1) (false_from (closes functions sorts n) t.0))
  where
    false_from : (b : Bool) → not b ≡ true → b ≡ false
    false_from true h = absurd (cc)
    false_from false h = refl

abbrev pub is_schema : SchemaParts → Bool
is_schema s = list_all (has_sorts s.sorts) s.functions && (list_all (is_sort s.sorts) s.constants && none_closes s.functions s.sorts (length s.functions))

pub is_schema-passed : (s : SchemaParts) → is_schema s ≡ true → IsSchema s
is_schema-passed s h =
    let t = and_parts (list_all (has_sorts s.sorts) s.functions) (list_all (is_sort s.sorts) s.constants && none_closes s.functions s.sorts (length s.functions)) h in
    let u = and_parts (list_all (is_sort s.sorts) s.constants) (none_closes s.functions s.sorts (length s.functions)) t.1 in
    let functions : All (HasSorts s.sorts) s.functions = list_all-All (has_sorts s.sorts) (HasSorts s.sorts)
    (λ f g. let v = and_parts (is_sort s.sorts f.source) (is_sort s.sorts f.target) g in (ltb-true f.source.n s.sorts v.0, ltb-true f.target.n s.sorts v.1)) s.functions t.0 in
    record { functions = functions; constants = are_sorts s.sorts s.constants u.0; acyclic = all_open s.functions s.sorts (length s.functions) functions (omega arith) (are_open s.functions s.sorts (length s.functions) u.1) }

abbrev pub is_shape : ShapeParts → Bool
is_shape s = is_schema s.schema && (list_all (is_sort s.schema.sorts) s.vars
    && (list_all (list_all (is_sort s.schema.sorts)) s.relations && list_all (λ (c : List SortId). nat_lt 0 (length c)) s.relations))

pub is_shape-passed : (s : ShapeParts) → is_shape s ≡ true → IsShape s
is_shape-passed s h =
    let vars : Bool = list_all (is_sort s.schema.sorts) s.vars in
    let columns : Bool = list_all (list_all (is_sort s.schema.sorts)) s.relations in
    let some : Bool = list_all (λ (c : List SortId). nat_lt 0 (length c)) s.relations in
    let t = and_parts (is_schema s.schema) (vars && (columns && some)) h in
    let u = and_parts vars (columns && some) t.1 in
    let v = and_parts columns some u.1 in record {
      schema = is_schema-passed s.schema t.0;
      vars = are_sorts s.schema.sorts s.vars u.0;
      columns = list_all-All (list_all (is_sort s.schema.sorts)) (All (IsSort s.schema.sorts)) (are_sorts s.schema.sorts) s.relations v.0;
      some_column = list_all-All (λ (c : List SortId). nat_lt 0 (length c)) (λ (c : List SortId). 0 < length c) (λ c g. ltb-true 0 (length c) g) s.relations v.1;
    }

-- formulas
abbrev pub same_sort : Option SortId → Option SortId → Bool
same_sort (Some s) (Some t) = nat_eq s.n t.n
same_sort (Some s) None = false
same_sort None p = false

pub same_sort-passed : (o p : Option SortId) → same_sort o p ≡ true → (s : SortId) × (o ≡ Some s) × (p ≡ Some s)
same_sort-passed (Some s) (Some t) h = (s, refl, ap (λ (n : ℕ). Some (record { n = n })) (sym (eqb-true s.n t.n h)))
same_sort-passed (Some s) None h = absurd (cc)
same_sort-passed None p h = absurd (cc)

abbrev pub literal_fits : ShapeParts → List RelId → List SortId → Literal → Bool
literal_fits shape rows params (Equal left right same) = same_sort (sort_of shape rows params left) (sort_of shape rows params right)

pub literal_fits-passed : (shape : ShapeParts) (rows : List RelId) (params : List SortId) (l : Literal) → literal_fits shape rows params l ≡ true → LiteralFits shape rows params l
literal_fits-passed shape rows params (Equal left right same) h = same_sort-passed (sort_of shape rows params left) (sort_of shape rows params right) h

pub literals_fit : (shape : ShapeParts) (rows : List RelId) (params : List SortId) (literals : List Literal)
    → list_all (literal_fits shape rows params) literals ≡ true → All (LiteralFits shape rows params) literals
literals_fit shape rows params = list_all-All (literal_fits shape rows params) (LiteralFits shape rows params) (literal_fits-passed shape rows params)

abbrev pub is_relation : ShapeParts → RelId → Bool
is_relation shape r = nat_lt r.n (length shape.relations)

pub are_relations : (shape : ShapeParts) (rows : List RelId) → list_all (is_relation shape) rows ≡ true → All (IsRelation shape) rows
are_relations shape = list_all-All (is_relation shape) (IsRelation shape) (λ r h. ltb-true r.n (length shape.relations) h)

abbrev pub fits : ShapeParts → Problem → Bool
fits shape p = list_all (is_relation shape) p.rows && (list_all (is_sort shape.schema.sorts) p.params && list_all (literal_fits shape p.rows p.params) p.literals)

pub fits-passed : (shape : ShapeParts) (p : Problem) → fits shape p ≡ true → Fits shape p
fits-passed shape p h =
    let t = and_parts (list_all (is_relation shape) p.rows) (list_all (is_sort shape.schema.sorts) p.params && list_all (literal_fits shape p.rows p.params) p.literals) h in
    let u = and_parts (list_all (is_sort shape.schema.sorts) p.params) (list_all (literal_fits shape p.rows p.params) p.literals) t.1 in
    record { rows = are_relations shape p.rows t.0; params = are_sorts shape.schema.sorts p.params u.0; literals = literals_fit shape p.rows p.params p.literals u.1 }

abbrev is_no_param : Base → Bool
is_no_param (Param p) = false
is_no_param b = true

is_no_param-passed : (b : Base) → is_no_param b ≡ true → IsNoParam b
is_no_param-passed (Param p) h = absurd (cc)
is_no_param-passed b h = tt

abbrev has_no_param : Literal → Bool
has_no_param (Equal left right same) = is_no_param left.base && is_no_param right.base

has_no_param-passed : (l : Literal) → has_no_param l ≡ true → HasNoParam l
has_no_param-passed (Equal left right same) h =
    let t = and_parts (is_no_param left.base) (is_no_param right.base) h in (is_no_param-passed left.base t.0, is_no_param-passed right.base t.1)

abbrev pub is_cube : Problem → Bool
is_cube p = nat_eq (length p.params) 0 && list_all has_no_param p.literals

pub is_cube-passed : (p : Problem) → is_cube p ≡ true → IsCube p
is_cube-passed p h =
    let t = and_parts (nat_eq (length p.params) 0) (list_all has_no_param p.literals) h in
    record { none = empty p.params (eqb-true (length p.params) 0 t.0); unnamed = list_all-All has_no_param HasNoParam has_no_param-passed p.literals t.1 }
  where
    empty : (xs : List SortId) → length xs ≡ 0 → xs ≡ []
    empty [] e = refl
    empty (x ∷ xs) e = absurd (omega (arith, e))

pub are_cubes-passed : (ps : List Problem) → list_all is_cube ps ≡ true → All IsCube ps
are_cubes-passed = list_all-All is_cube IsCube is_cube-passed

pub are_fits-passed : (shape : ShapeParts) (ps : List Problem) → list_all (fits shape) ps ≡ true → All (Fits shape) ps
are_fits-passed shape = list_all-All (fits shape) (Fits shape) (fits-passed shape)

-- elements and values
abbrev pub are_elements : RawDb → List SortId → List ℕ → Bool
are_elements d sorts numbers = nat_eq (length numbers) (length sorts) && each (λ k s. nat_le (get_or numbers k 0) (size_of d s)) sorts

pub are_elements-passed : (d : RawDb) (sorts : List SortId) (numbers : List ℕ) → are_elements d sorts numbers ≡ true → AreElements d sorts numbers
are_elements-passed d sorts numbers h =
    let within : ℕ → SortId → Bool = λ k s. nat_le (get_or numbers k 0) (size_of d s) in
    let t = and_parts (nat_eq (length numbers) (length sorts)) (each within sorts) h in record {
      as_many = eqb-true (length numbers) (length sorts) t.0;
      each = λ k s e. leb-true (get_or numbers k 0) (size_of d s) (each-at within sorts t.1 k s e);
    }

abbrev pub are_values : ShapeParts → RawDb → List RelId → List SortId → Values → Bool
are_values shape d rows params v = are_elements d shape.vars v.vars && (nat_eq (length v.rows) (length rows)
    && (each (λ k (r : RelId). are_elements d (get_or shape.relations r.n []) (get_or v.rows k [])) rows && are_elements d params v.params))

pub are_values-passed : (shape : ShapeParts) (d : RawDb) (rows : List RelId) (params : List SortId) (v : Values) → are_values shape d rows params v ≡ true → AreValues shape d rows params v
are_values-passed shape d rows params v h =
    let row : ℕ → RelId → Bool = λ k r. are_elements d (get_or shape.relations r.n []) (get_or v.rows k []) in
    let t = and_parts (are_elements d shape.vars v.vars) (nat_eq (length v.rows) (length rows) && (each row rows && are_elements d params v.params)) h in
    let u = and_parts (nat_eq (length v.rows) (length rows)) (each row rows && are_elements d params v.params) t.1 in
    let w = and_parts (each row rows) (are_elements d params v.params) u.1 in record {
      vars = are_elements-passed d shape.vars v.vars t.0;
      as_many_rows = eqb-true (length v.rows) (length rows) u.0;
      each_row = λ k r e. are_elements-passed d (get_or shape.relations r.n []) (get_or v.rows k []) (each-at row rows w.0 k r e);
      param_values = are_elements-passed d params v.params w.1;
    }

pub all_hold : (d : RawDb) (v : Values) (literals : List Literal) → list_all (holds d v) literals ≡ true → AllHold d v literals
all_hold d v = list_all-All (holds d v) (λ l. holds d v l ≡ true) (λ l h. h)

abbrev pub satisfies : ShapeParts → RawDb → Values → Problem → Bool
satisfies shape d v p = are_values shape d p.rows p.params v && list_all (holds d v) p.literals

pub satisfies-passed : (shape : ShapeParts) (d : RawDb) (v : Values) (p : Problem) → satisfies shape d v p ≡ true → Satisfies shape d v p
satisfies-passed shape d v p h =
    let t = and_parts (are_values shape d p.rows p.params v) (list_all (holds d v) p.literals) h in
    record { values = are_values-passed shape d p.rows p.params v t.0; literals = all_hold d v p.literals t.1 }

-- databases
abbrev is_table : RawDb → FunDecl → List ℕ → Bool
is_table d f table = nat_eq (length table) (size_of d f.source) && each (λ k x. nat_le x (size_of d f.target) && (not f.total || nat_lt 0 x)) table

is_table-passed : (d : RawDb) (f : FunDecl) (table : List ℕ) → is_table d f table ≡ true → IsTable d f table
is_table-passed d f table h =
    let entry : ℕ → ℕ → Bool = λ k x. nat_le x (size_of d f.target) && (not f.total || nat_lt 0 x) in
    let t = and_parts (nat_eq (length table) (size_of d f.source)) (each entry table) h in
    let at : (k : ℕ) → k < length table → (nat_le (get_or table k 0) (size_of d f.target) ≡ true) × ((not f.total || nat_lt 0 (get_or table k 0)) ≡ true) =
    λ k lt. and_parts (nat_le (get_or table k 0) (size_of d f.target)) (not f.total || nat_lt 0 (get_or table k 0)) (each-at entry table t.1 k (get_or table k 0) (slice_get-get_or table k 0 lt)) in record {
      as_long = eqb-true (length table) (size_of d f.source) t.0;
      in_target = λ k lt. leb-true (get_or table k 0) (size_of d f.target) (at k lt).0;
      total = λ e k lt. ltb-true 0 (get_or table k 0) (unless f.total (nat_lt 0 (get_or table k 0)) (at k lt).1 e);
    }

abbrev pub is_database : SchemaParts → RawDb → Bool
is_database s d = nat_eq (length d.sizes) s.sorts && (nat_eq (length d.tables) (length s.functions) && (each (λ k f. is_table d f (get_or d.tables k [])) s.functions
    && (nat_eq (length d.constants) (length s.constants) && (each (λ k (q : SortId). nat_lt 0 (constant_of d k) && nat_le (constant_of d k) (size_of d q)) s.constants
    && are_apart (λ (q : SortId). q.n) (constant_of d) s.constants))))

pub is_database-passed : (s : SchemaParts) (d : RawDb) → is_database s d ≡ true → IsDatabase s d
is_database-passed s d h =
    let table : ℕ → FunDecl → Bool = λ k f. is_table d f (get_or d.tables k []) in
    let within : ℕ → SortId → Bool = λ k q. nat_lt 0 (constant_of d k) && nat_le (constant_of d k) (size_of d q) in
    let apart : Bool = are_apart (λ (q : SortId). q.n) (constant_of d) s.constants in
    let many : Bool = nat_eq (length d.constants) (length s.constants) in
    let a = and_parts (nat_eq (length d.sizes) s.sorts) (nat_eq (length d.tables) (length s.functions) && (each table s.functions && (many && (each within s.constants && apart)))) h in
    let b = and_parts (nat_eq (length d.tables) (length s.functions)) (each table s.functions && (many && (each within s.constants && apart))) a.1 in
    let c = and_parts (each table s.functions) (many && (each within s.constants && apart)) b.1 in
    let e = and_parts many (each within s.constants && apart) c.1 in
    let g = and_parts (each within s.constants) apart e.1 in record {
      sizes = eqb-true (length d.sizes) s.sorts a.0;
      tables = eqb-true (length d.tables) (length s.functions) b.0;
      each_table = λ k f q. is_table-passed d f (get_or d.tables k []) (each-at table s.functions c.0 k f q);
      constants = eqb-true (length d.constants) (length s.constants) e.0;
      each_constant = λ k q i. let w = and_parts (nat_lt 0 (constant_of d k)) (nat_le (constant_of d k) (size_of d q)) (each-at within s.constants g.0 k q i) in
          (ltb-true 0 (constant_of d k) w.0, leb-true (constant_of d k) (size_of d q) w.1);
      apart = λ j k q ej ek i. are_apart-different (λ (q : SortId). q.n) (constant_of d) s.constants g.1 j k q q ej ek refl i;
    }
