-- What a schema is: sorts, functions between them, constants of them, and no way back along the functions.
use Rattle.std.specs.Prelude.{◌≡◌, ℕ, ◌<◌, List, [], ◌∷◌, length, All, Contains, ⊤}
use Rattle.ras_logic.specs.declared.ids.SortId.{SortId}
use Rattle.ras_logic.specs.declared.function.FunDecl.{FunDecl}

-- a number of sorts, the functions, and the sort of each constant
pub record SchemaParts : Type 0 where
  pub sorts : ℕ
  pub functions : List FunDecl
  pub constants : List SortId

-- there is such a sort
abbrev pub IsSort : ℕ → SortId → Type 0
IsSort sorts s = s.n < sorts

-- both sorts of a function exist
abbrev pub HasSorts : ℕ → FunDecl → Type 0
HasSorts sorts f = IsSort sorts f.source × IsSort sorts f.target

-- each target is the next source
abbrev pub IsLinked : List FunDecl → Type 0
IsLinked [] = ⊤
IsLinked (f ∷ []) = ⊤
IsLinked (f ∷ g ∷ fs) = (f.target ≡ g.source) × IsLinked (g ∷ fs)

-- a sequence of functions of the list, in which each target is the next source
pub record IsChain (functions chain : List FunDecl) : Type 0 where
  pub known : All (Contains functions) chain
  pub linked : IsLinked chain

-- each sequence of one or more linked functions has fewer functions than there are sorts
abbrev pub IsAcyclic : ℕ → List FunDecl → Type 0
IsAcyclic sorts functions = (f : FunDecl) (fs : List FunDecl) → IsChain functions (f ∷ fs) → length (f ∷ fs) < sorts

-- a schema: the sorts that it names exist, and it is acyclic
pub record IsSchema (s : SchemaParts) : Type 0 where
  pub functions : All (HasSorts s.sorts) s.functions
  pub constants : All (IsSort s.sorts) s.constants
  pub acyclic : IsAcyclic s.sorts s.functions
