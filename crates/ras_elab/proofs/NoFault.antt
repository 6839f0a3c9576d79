-- The parts of a schema or a shape within its limits have no fault.
use Rattle.std.proofs.Common.{◌≡◌, true, ℕ, suc, ◌+◌, ◌<◌, List, [], ◌∷◌, length, get_or, take, ap, ◌∙◌, sym, refl, subst, arith}
use Rattle.std.specs.Prelude.{All, Contains, Result, Ok, Err, IfOk, IfErr}
use Rattle.std.specs.Result.{IsOk}
use Rattle.std.proofs.lemmas.List.{get_or-take, length-take}
use Rattle.std.proofs.lemmas.List.Elements.{All-append}
use Rattle.ras_logic.specs.declared.ids.SortId.{SortId}
use Rattle.ras_logic.specs.declared.function.FunDecl.{FunDecl}
use Rattle.ras_logic.specs.declared.kind.Kind.TheVariants.{Sort, Function, Constant, Variable, Relation, Column}
use Rattle.ras_logic.specs.declared.schema_fault.SchemaFault.{SchemaFault}
use Rattle.ras_logic.specs.declared.schema_fault.SchemaFault.TheVariants.{TooMany, BadSort, Cycle}
use Rattle.ras_logic.specs.declared.shape_fault.ShapeFault.{ShapeFault}
use Rattle.ras_logic.specs.declared.shape_fault.ShapeFault.TheVariants as shape_fault
use Rattle.ras_logic.specs.Schemas.{SchemaParts, IsSort, IsSchema}
use Rattle.ras_logic.specs.SchemaFaults.{HasSchemaLimits, IsSchemaFault, HasCycle}
use Rattle.ras_logic.specs.Shapes.{ShapeParts, IsShape}
use Rattle.ras_logic.specs.ShapeFaults.{HasShapeLimits, IsShapeFault, all_columns}
use Rattle.ras_logic.proofs.Rounds.{acyclic-no_cycle}

contains_more : {X : Type 0} (xs : List X) (n : ℕ) (x : X) → Contains (take n xs) x → Contains xs x
contains_more xs n x (k, lt, is) =
    let within : (k < n) × (k < length xs) = (omega (arith, lt, length-take n xs), omega (arith, lt, length-take n xs)) in
    (k, within.1, sym (get_or-take n xs k x within.0) ∙ is)

cycle_more : (functions : List FunDecl) (n : ℕ) → HasCycle (take n functions) → HasCycle functions
cycle_more functions n (f, fs, chain, end) = (f, fs, record { known = λ k d lt. contains_more functions n (get_or (f ∷ fs) k d) (chain.known k d lt); linked = chain.linked }, end)

pub no_schema_fault : (s : SchemaParts) → IsSchema s → HasSchemaLimits s → (f : SchemaFault) → IsSchemaFault s f → ⊥
no_schema_fault s is few (TooMany Sort) h = absurd (omega (arith, few.sorts, h))
no_schema_fault s is few (TooMany Function) h = absurd (omega (arith, few.functions, h.1))
no_schema_fault s is few (TooMany Constant) h = absurd (omega (arith, few.constants, h.2))
no_schema_fault s is few (TooMany kind) h = absurd h
no_schema_fault s is few (BadSort Function place) h = let d : FunDecl = record { source = record { n = 0 }; target = record { n = 0 }; total = true } in h.1.bad d (is.functions place d h.1.within)
no_schema_fault s is few (BadSort Constant place) h = let d : SortId = record { n = 0 } in h.2.bad d (is.constants place d h.2.within)
no_schema_fault s is few (BadSort kind place) h = absurd h
no_schema_fault s is few (Cycle f) h = acyclic-no_cycle s.sorts s.functions is.acyclic (cycle_more s.functions (f.n + 1) h.3.closed)

all_of_columns : (P : SortId → Type 0) (relations : List (List SortId)) → All (All P) relations → All P (all_columns relations)
all_of_columns P [] h = λ k d lt. absurd (omega (arith, lt))
all_of_columns P (columns ∷ relations) h =
    All-append P columns (all_columns relations) (h 0 columns (omega arith)) (all_of_columns P relations (λ k d lt. h (suc k) d (omega (arith, lt))))

pub no_shape_fault : (s : ShapeParts) → IsShape s → HasShapeLimits s → (f : ShapeFault) → IsShapeFault s f → ⊥
no_shape_fault s is few (shape_fault.TooMany Variable) h = absurd (omega (arith, few.vars, h))
no_shape_fault s is few (shape_fault.TooMany Relation) h = absurd (omega (arith, few.relations, h.1))
no_shape_fault s is few (shape_fault.TooMany Column) h = go h.2
  where
    go : ((k : ℕ) × (x : List SortId) × (k < length s.relations) × (get_or s.relations k x ≡ x) × (32 < length x)) → ⊥
    go (k, x, lt, at, wide) = absurd (omega (arith, few.columns k x lt, ap length at, wide))
no_shape_fault s is few (shape_fault.TooMany kind) h = absurd h
no_shape_fault s is few (shape_fault.BadSort Variable place) h = let d : SortId = record { n = 0 } in h.1.bad d (is.vars place d h.1.within)
no_shape_fault s is few (shape_fault.BadSort Column place) h =
    let d : SortId = record { n = 0 } in h.2.bad d (all_of_columns (IsSort s.schema.sorts) s.relations is.columns place d h.2.within)
no_shape_fault s is few (shape_fault.BadSort kind place) h = absurd h
no_shape_fault s is few (shape_fault.NoColumn r) h = h.3.bad [] (is.some_column r.n [] h.3.within)

-- an answer without a possible error
pub is_ok : {A E : Type 0} (F : E → Type 0) (r : Result A E) → ((e : E) → F e → ⊥) → IfErr r F → IsOk r
is_ok F (Ok a) never h = refl
is_ok F (Err e) never h = absurd (never e h)

pub ok_value : {A E : Type 0} (P : A → Type 0) (r : Result A E) (a : A) → r ≡ Ok a → IfOk r P → P a
ok_value {A} {E} P r a same h = subst (λ (s : Result A E). IfOk s P) same h
