-- Short forms of the parts of a placed file, so that a vector reads like its text.
use Rattle.std.specs.Prelude.{ℕ, true, false, List, [], Option, codes}
use Prim.Native.String.{String}
use Rattle.ras_names.specs.declared.spec_fault.SpecKind.{SpecKind}
use Rattle.ras_names.specs.declared.spec_fault.SpecFault.{SpecFault}
use Rattle.ras_names.specs.Placed.{Name, Declared, Function, Initial, Variable, Relation, Base, Term, Literal, Conjunction, Guard, Update, Assignment, Case, Each, Step, Goal, File}

abbrev pub name : ℕ → String → Name
name place text = record { at = place; text = codes text }

abbrev pub declared : Name → Name → Declared
declared n of = record { name = n; of = of }

abbrev pub total : Name → Name → Name → Function
total n source target = record { total = true; name = n; source = source; target = target }

abbrev pub nullable : Name → Name → Name → Function
nullable n source target = record { total = false; name = n; source = source; target = target }

abbrev pub initial : ℕ → Name → Initial
initial place c = record { at = place; constant = c }

abbrev pub variable : Name → Name → Option Initial → Variable
variable n sort i = record { name = n; sort = sort; initial = i }

abbrev pub relation : Name → Declared → List Declared → Relation
relation n first others = record { name = n; first = first; others = others }

abbrev pub term : List Name → Base → Term
term functions b = record { functions = functions; base = b }

-- a base with no function around it
abbrev pub bare : Base → Term
bare b = term [] b

abbrev pub same : Term → ℕ → Term → Literal
same left place right = record { left = left; at = place; equal = true; right = right }

abbrev pub apart : Term → ℕ → Term → Literal
apart left place right = record { left = left; at = place; equal = false; right = right }

abbrev pub guard : Conjunction → List Conjunction → Guard
guard first others = record { first = first; others = others }

abbrev pub update : Name → Option Name → ℕ → Term → Update
update n column place t = record { name = n; column = column; at = place; term = t }

abbrev pub assignment : Name → Name → ℕ → Term → Assignment
assignment row column place t = record { row = row; column = column; at = place; term = t }

abbrev pub case : ℕ → Conjunction → List Assignment → Case
case place condition assignments = record { at = place; condition = condition; assignments = assignments }

abbrev pub each : Name → Name → Case → List Case → Each
each row r first others = record { row = row; relation = r; first = first; others = others }

abbrev pub step : Name → List Declared → List Declared → Guard → List Update → List Each → Step
step n rows params g updates eachs = record { name = n; rows = rows; params = params; guard = g; updates = updates; eachs = eachs }

abbrev pub goal : List Declared → Guard → Goal
goal rows g = record { rows = rows; guard = g }

-- a file with nothing but its name
abbrev pub named : Name → File
named n = record { name = n; sorts = []; functions = []; constants = []; variables = []; relations = []; steps = []; goals = [] }

abbrev pub fault : ℕ → SpecKind → SpecFault
fault place kind = record { at = place; kind = kind }
