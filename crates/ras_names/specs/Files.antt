-- What a file of the grammar denotes.
use Rattle.std.specs.Prelude.{◌≡◌, length, List, Option, Some, None}
use Rattle.ras_logic.specs.declared.ids.SortId.{SortId}
use Rattle.ras_logic.specs.declared.ids.ConstId.{ConstId}
use Rattle.ras_logic.specs.declared.function.FunDecl.{FunDecl}
use Rattle.ras_logic.specs.SchemaFaults.{HasSchemaLimits}
use Rattle.ras_logic.specs.ShapeFaults.{HasShapeLimits}
use Rattle.ras_system.specs.Systems.{SystemParts, IsSystem}
use Rattle.ras_system.specs.SystemFaults.{HasSystemLimits}
use Rattle.ras_syntax.specs.Grammar as grammar
use Rattle.ras_syntax.specs.Grammar.{Text}
use Rattle.ras_names.specs.declared.names.Names.{Names}
use Rattle.ras_names.specs.Lists.{HasNumber, OneByOne}
use Rattle.ras_names.specs.FileParts.{columns, file_goals}
use Rattle.ras_names.specs.FileNames.{names_of}
use Rattle.ras_names.specs.NewNames.{AreNewNames}
use Rattle.ras_names.specs.Steps.{StepDenotes, GoalDenotes}

module _ (names : Names) where
  -- a sort, by its name
  abbrev pub IsSortNamed : Text → SortId → Type 0
  IsSortNamed name sort = HasNumber names.sorts name sort.n

  pub record FunctionDenotes (f : grammar.Function) (d : FunDecl) : Type 0 where
    pub source : IsSortNamed f.source d.source
    pub target : IsSortNamed f.target d.target
    pub total : d.total ≡ f.total

  abbrev pub InitialDenotes : Option Text → Option ConstId → Type 0
  InitialDenotes None None = Unit {0}
  InitialDenotes (Some name) (Some c) = HasNumber names.constants name c.n
  InitialDenotes None (Some c) = ⊥
  InitialDenotes (Some name) None = ⊥

  abbrev pub ColumnsDenote : grammar.Relation → List SortId → Type 0
  ColumnsDenote r sorts = OneByOne (λ (c : grammar.Column). IsSortNamed c.sort) (columns r) sorts

-- The file denotes the system, and the names are its own: they are new where they have to be, each item denotes the part
-- of its number, and the parts are a system within its limits.
pub record FileDenotes (file : grammar.File) (system : SystemParts) (names : Names) : Type 0 where
  pub own_names : names ≡ names_of file
  pub new_names : AreNewNames names
  pub sorts : system.shape.schema.sorts ≡ length file.sorts
  pub functions : OneByOne (FunctionDenotes names) file.functions system.shape.schema.functions
  pub constants : OneByOne (λ (c : grammar.Constant). IsSortNamed names c.sort) file.constants system.shape.schema.constants
  pub variables : OneByOne (λ (v : grammar.Variable). IsSortNamed names v.sort) file.variables system.shape.vars
  pub initial : OneByOne (λ (v : grammar.Variable). InitialDenotes names v.initial) file.variables system.initial
  pub relations : OneByOne (ColumnsDenote names) file.relations system.shape.relations
  pub steps : OneByOne (StepDenotes names) file.steps system.transitions
  pub goals : OneByOne (GoalDenotes names) (file_goals file) system.goals
  pub is_system : IsSystem system
  pub schema_limits : HasSchemaLimits system.shape.schema
  pub shape_limits : HasShapeLimits system.shape
  pub limits : HasSystemLimits system
