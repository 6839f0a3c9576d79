-- The canonical text of a system with its names.
use Rattle.std.specs.Prelude.{ℕ, ◌+◌, List, [], ◌∷◌, ◌++◌, map, flat_map, codes, length, take, drop, slice_get, nat_eq, Option, Some, None, if◌then◌else◌}
use Rattle.ras_logic.specs.declared.ids.SortId.{SortId}
use Rattle.ras_logic.specs.declared.ids.ConstId.{ConstId}
use Rattle.ras_logic.specs.declared.ids.RelId.{RelId}
use Rattle.ras_logic.specs.declared.function.FunDecl.{FunDecl}
use Rattle.ras_logic.specs.declared.problem.Problem.{Problem}
use Rattle.ras_system.specs.declared.update.Update.{Update}
use Rattle.ras_system.specs.declared.bulk.Assign.{Assign}
use Rattle.ras_system.specs.declared.bulk.Bulk.{Bulk}
use Rattle.ras_system.specs.declared.transition.Transition.{Transition}
use Rattle.ras_system.specs.Systems.{SystemParts}
use Rattle.ras_syntax.specs.Grammar as grammar
use Rattle.ras_syntax.specs.Grammar.{Text}
use Rattle.ras_names.specs.declared.names.StepNames.{StepNames}
use Rattle.ras_names.specs.declared.names.GoalNames.{GoalNames}
use Rattle.ras_names.specs.declared.names.Names.{Names}
use Rattle.ras_names.specs.Terms.{Scope}
use Rattle.ras_names.specs.Canonical.{line, inner_line, joined, declared_text, conjunction_text, sort_line, function_line, constant_line, variable_line, column_text, row_line, param_line, update_line, assignment_text, whole_case}
use Rattle.ras_print.specs.Lookup.{relation_at, columns_at}
use Rattle.ras_print.specs.Items.{function_at, constant_at, variable_at, column_item, row_item, param_item, conjunction_item, update_item, assignment_item, case_item}

-- the texts of elements that know their numbers, from this number on
abbrev pub numbered : {A : Type 0} → (ℕ → A → List ℕ) → ℕ → List A → List ℕ
numbered text k [] = []
numbered text k (x ∷ xs) = text k x ++ numbered text (k + 1) xs

-- a text in front of that of an element
abbrev pub behind : {A : Type 0} → List ℕ → (ℕ → A → List ℕ) → ℕ → A → List ℕ
behind between text n x = between ++ text n x

-- the texts of elements with this between each two
abbrev pub numbered_list : {A : Type 0} → (ℕ → A → List ℕ) → List ℕ → List A → List ℕ
numbered_list text between [] = []
numbered_list text between (x ∷ xs) = text 0 x ++ numbered (behind between text) 1 xs

abbrev pub when_line : List grammar.Conjunction → List ℕ
when_line disjuncts = inner_line (codes "when " ++ (joined (codes " or ") (map conjunction_text disjuncts) ++ codes ";"))

-- the cases at the front that are of this relation, and how many they are
abbrev pub front : RelId → List Bulk → ℕ
front r [] = 0
front r (b ∷ bs) = if nat_eq b.relation.n r.n then front r bs + 1 else 0

-- the cases at the front that are of the relation of the first
abbrev pub group : List Bulk → ℕ
group [] = 0
group (b ∷ bs) = front b.relation bs + 1

-- the rows of an unsafe item are those of its first goal
abbrev pub first_rows : List Problem → List RelId
first_rows [] = []
first_rows (p ∷ ps) = p.rows

-- the lines and texts of the parts, by their numbers
abbrev pub sort_text : Text → List ℕ
sort_text name = sort_line (record { name = name })

abbrev pub function_text : Names → ℕ → FunDecl → List ℕ
function_text names n d = function_line (function_at names n d)

abbrev pub constant_text : Names → ℕ → SortId → List ℕ
constant_text names n s = constant_line (constant_at names n s)

abbrev pub variable_text : Names → List (Option ConstId) → ℕ → SortId → List ℕ
variable_text names initial n s = variable_line (variable_at names initial n s)

abbrev pub relation_column : Names → List Text → ℕ → SortId → List ℕ
relation_column names columns n s = column_text (column_item names columns n s)

abbrev pub row_text : Names → List Text → ℕ → RelId → List ℕ
row_text names rows n r = row_line (row_item names rows n r)

abbrev pub param_text : Names → List Text → ℕ → SortId → List ℕ
param_text names params n s = param_line (param_item names params n s)

abbrev pub update_text : Scope → Update → List ℕ
update_text scope u = update_line (update_item scope u)

abbrev pub assign_text : Scope → ℕ → Assign → List ℕ
assign_text scope row a = assignment_text (assignment_item scope row a)

module _ (names : Names) where
  -- the relation of the first of the cases
  abbrev pub first_relation : List Bulk → Text
  first_relation [] = []
  first_relation (b ∷ bs) = relation_at names b.relation.n

  module _ (s : StepNames) (t : Transition) where
    abbrev pub step_scope : Scope
    step_scope = record { names = names; rows = s.rows; relations = t.rows; params = s.params }

    abbrev pub each_scope : Text → RelId → Scope
    each_scope row r = record { names = names; rows = s.rows ++ row ∷ []; relations = t.rows ++ r ∷ []; params = s.params }

    abbrev pub case_of : Text → Bulk → List ℕ
    case_of row b = whole_case (case_item (each_scope row b.relation) (length t.rows) b)

    abbrev pub each_text : Text → List Bulk → List ℕ
    each_text row cases = inner_line (codes "each " ++ (declared_text row (first_relation cases) ++ codes " {")) ++ (flat_map (case_of row) cases ++ inner_line (codes "}"))

    -- each `each` has the cases of one relation
    abbrev pub each_texts : List Text → List Bulk → List ℕ
    each_texts [] cases = []
    each_texts (row ∷ rows) cases = each_text row (take (group cases) cases) ++ each_texts rows (drop (group cases) cases)

    abbrev pub step_text : List ℕ
    step_text =
        line (codes "step " ++ (s.name ++ codes " {"))
        ++ (numbered (row_text names s.rows) 0 t.rows
        ++ (numbered (param_text names s.params) 0 t.params
        ++ (when_line (map (conjunction_item step_scope) t.guard)
        ++ (flat_map (update_text step_scope) t.updates
        ++ (each_texts s.each t.bulk
        ++ line (codes "}"))))))

  abbrev pub step_of : Option StepNames → Transition → List ℕ
  step_of None t = []
  step_of (Some s) t = step_text s t

  abbrev pub step_at : ℕ → Transition → List ℕ
  step_at n t = step_of (slice_get names.steps n) t

  abbrev pub goal_scope : GoalNames → Problem → Scope
  goal_scope g p = record { names = names; rows = g.rows; relations = p.rows; params = [] }

  abbrev pub goal_item : GoalNames → Problem → grammar.Conjunction
  goal_item g p = conjunction_item (goal_scope g p) p.literals

  abbrev pub goal_text : GoalNames → List Problem → List ℕ
  goal_text g ps =
      line (codes "unsafe {")
      ++ (numbered (row_text names g.rows) 0 (first_rows ps)
      ++ (when_line (map (goal_item g) ps)
      ++ line (codes "}")))

  -- each unsafe item has as many goals as it has disjuncts
  abbrev pub goal_texts : List GoalNames → List Problem → List ℕ
  goal_texts [] ps = []
  goal_texts (g ∷ gs) ps = goal_text g (take g.disjuncts ps) ++ goal_texts gs (drop g.disjuncts ps)

  abbrev pub relation_text : ℕ → List SortId → List ℕ
  relation_text n sorts =
      line (codes "relation " ++ (relation_at names n ++ (codes " (" ++ (numbered_list (relation_column names (columns_at names n)) (codes ", ") sorts ++ codes ");"))))

abbrev pub printed : SystemParts → Names → List ℕ
printed system names =
    line (codes "system " ++ (names.system ++ codes ";"))
    ++ (flat_map sort_text names.sorts
    ++ (numbered (function_text names) 0 system.shape.schema.functions
    ++ (numbered (constant_text names) 0 system.shape.schema.constants
    ++ (numbered (variable_text names system.initial) 0 system.shape.vars
    ++ (numbered (relation_text names) 0 system.shape.relations
    ++ (numbered (step_at names) 0 system.transitions
    ++ goal_texts names names.goals system.goals))))))
