-- The first fault of what is no schema.
use Rattle.std.specs.Prelude.{◌≡◌, ℕ, ◌+◌, ◌<◌, ◌≤◌, List, [], ◌∷◌, length, take, All}
use Rattle.ras_logic.specs.declared.ids.SortId.{SortId}
use Rattle.ras_logic.specs.declared.function.FunDecl.{FunDecl}
use Rattle.ras_logic.specs.declared.kind.Kind.TheVariants.{Sort, Function, Constant}
use Rattle.ras_logic.specs.declared.schema_fault.SchemaFault.{SchemaFault}
use Rattle.ras_logic.specs.declared.schema_fault.SchemaFault.TheVariants.{TooMany, BadSort, Cycle}
use Rattle.ras_logic.specs.Places.{IsFirstBad}
use Rattle.ras_logic.specs.Schemas.{SchemaParts, IsSort, HasSorts, IsChain}

-- at most 64 sorts, 256 functions and 256 constants
pub record HasSchemaLimits (s : SchemaParts) : Type 0 where
  pub sorts : s.sorts ≤ 64
  pub functions : length s.functions ≤ 256
  pub constants : length s.constants ≤ 256

-- the sort that a sequence of functions leads to
abbrev pub end_of : FunDecl → List FunDecl → SortId
end_of f [] = f.target
end_of f (g ∷ fs) = end_of g fs

-- a sequence of one or more linked functions leads back to the sort where it starts
abbrev pub HasCycle : List FunDecl → Type 0
HasCycle functions = (f : FunDecl) × (fs : List FunDecl) × IsChain functions (f ∷ fs) × (end_of f fs ≡ f.source)

-- the first function that closes a cycle with those before it
pub record IsFirstCycle (functions : List FunDecl) (k : ℕ) : Type 0 where
  pub within : k < length functions
  pub before : HasCycle (take k functions) → ⊥
  pub closed : HasCycle (take (k + 1) functions)

-- a count beyond its limit, then a sort that does not exist, then a cycle
abbrev pub IsSchemaFault : SchemaParts → SchemaFault → Type 0
IsSchemaFault s (TooMany Sort) = 64 < s.sorts
IsSchemaFault s (TooMany Function) = (s.sorts ≤ 64) × (256 < length s.functions)
IsSchemaFault s (TooMany Constant) = (s.sorts ≤ 64) × (length s.functions ≤ 256) × (256 < length s.constants)
IsSchemaFault s (TooMany kind) = ⊥
IsSchemaFault s (BadSort Function place) = HasSchemaLimits s × IsFirstBad (HasSorts s.sorts) s.functions place
IsSchemaFault s (BadSort Constant place) =
    HasSchemaLimits s × All (HasSorts s.sorts) s.functions × IsFirstBad (IsSort s.sorts) s.constants place
IsSchemaFault s (BadSort kind place) = ⊥
IsSchemaFault s (Cycle f) =
    HasSchemaLimits s × All (HasSorts s.sorts) s.functions × All (IsSort s.sorts) s.constants × IsFirstCycle s.functions f.n
