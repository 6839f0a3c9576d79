-- The canonical text of a file: one item a line, in the order of the grammar.
use Rattle.std.specs.Prelude.{ℕ, List, [], ◌∷◌, ◌++◌, Option, Some, None, Bool, true, false, map, flat_map, codes}
use Rattle.ras_syntax.specs.Grammar as grammar
use Rattle.ras_syntax.specs.Grammar.{Text}
use Rattle.ras_names.specs.FileParts.{columns, disjuncts, cases}

-- a line ends with LF (10)
abbrev pub line : List ℕ → List ℕ
line text = text ++ 10 ∷ []

-- a line of a step or of an unsafe item, and a line of a case
abbrev pub inner_line : List ℕ → List ℕ
inner_line text = line (codes "  " ++ text)

abbrev pub case_line : List ℕ → List ℕ
case_line text = line (codes "    " ++ text)

-- the texts with this between each two
abbrev pub joined : List ℕ → List (List ℕ) → List ℕ
joined between [] = []
joined between (t ∷ ts) = t ++ flat_map (λ (u : List ℕ). between ++ u) ts

-- name : of
abbrev pub declared_text : Text → Text → List ℕ
declared_text name of = name ++ (codes " : " ++ of)

-- nothing stands between the parts of a term
abbrev pub term_text : grammar.Term → List ℕ
term_text (grammar.call f t) = f ++ (codes "(" ++ (term_text t ++ codes ")"))
term_text (grammar.cell row column) = row ++ (codes "." ++ column)
term_text (grammar.plain name) = name
term_text grammar.undef = codes "undef"

abbrev pub comparison_text : Bool → List ℕ
comparison_text true = codes " = "
comparison_text false = codes " != "

abbrev pub literal_text : grammar.Literal → List ℕ
literal_text l = term_text l.left ++ (comparison_text l.equal ++ term_text l.right)

abbrev pub conjunction_text : grammar.Conjunction → List ℕ
conjunction_text grammar.always = codes "true"
conjunction_text (grammar.all l ls) = joined (codes " and ") (map literal_text (l ∷ ls))

abbrev pub guard_line : grammar.Guard → List ℕ
guard_line g = inner_line (codes "when " ++ (joined (codes " or ") (map conjunction_text (disjuncts g)) ++ codes ";"))

abbrev pub sort_line : grammar.Sort → List ℕ
sort_line s = line (codes "sort " ++ (s.name ++ codes ";"))

abbrev pub totality_text : Bool → List ℕ
totality_text true = codes "total "
totality_text false = codes "nullable "

abbrev pub function_line : grammar.Function → List ℕ
function_line f = line (totality_text f.total ++ (declared_text f.name f.source ++ (codes " -> " ++ (f.target ++ codes ";"))))

abbrev pub constant_line : grammar.Constant → List ℕ
constant_line c = line (codes "const " ++ (declared_text c.name c.sort ++ codes ";"))

abbrev pub initial_text : Option Text → List ℕ
initial_text None = []
initial_text (Some name) = codes " = " ++ name

abbrev pub variable_line : grammar.Variable → List ℕ
variable_line v = line (codes "var " ++ (declared_text v.name v.sort ++ (initial_text v.initial ++ codes ";")))

abbrev pub column_text : grammar.Column → List ℕ
column_text c = declared_text c.name c.sort

abbrev pub relation_line : grammar.Relation → List ℕ
relation_line r = line (codes "relation " ++ (r.name ++ (codes " (" ++ (joined (codes ", ") (map column_text (columns r)) ++ codes ");"))))

abbrev pub row_line : grammar.Row → List ℕ
row_line r = inner_line (codes "row " ++ (declared_text r.name r.relation ++ codes ";"))

abbrev pub param_line : grammar.Param → List ℕ
param_line p = inner_line (codes "param " ++ (declared_text p.name p.sort ++ codes ";"))

abbrev pub target_text : Text → Option Text → List ℕ
target_text name None = name
target_text name (Some column) = name ++ (codes "." ++ column)

abbrev pub assigned_text : List ℕ → grammar.Term → List ℕ
assigned_text target t = target ++ (codes " := " ++ (term_text t ++ codes ";"))

abbrev pub update_line : grammar.Update → List ℕ
update_line u = inner_line (assigned_text (target_text u.name u.column) u.term)

-- an assignment of a case, with a blank behind it
abbrev pub assignment_text : grammar.Assignment → List ℕ
assignment_text a = assigned_text (target_text a.row (Some a.column)) a.term ++ codes " "

-- a case is one line
abbrev pub whole_case : grammar.Case → List ℕ
whole_case c = case_line (codes "if " ++ (conjunction_text c.condition ++ (codes " { " ++ (flat_map assignment_text c.assignments ++ codes "}"))))

abbrev pub each_lines : grammar.Each → List ℕ
each_lines e = inner_line (codes "each " ++ (declared_text e.row e.relation ++ codes " {")) ++ (flat_map whole_case (cases e) ++ inner_line (codes "}"))

abbrev pub step_lines : grammar.Step → List ℕ
step_lines s =
    line (codes "step " ++ (s.name ++ codes " {"))
    ++ (flat_map row_line s.rows
    ++ (flat_map param_line s.params
    ++ (guard_line s.guard
    ++ (flat_map update_line s.updates
    ++ (flat_map each_lines s.eachs
    ++ line (codes "}"))))))

abbrev pub goal_lines : grammar.Goal → List ℕ
goal_lines g = line (codes "unsafe {") ++ (flat_map row_line g.rows ++ (guard_line g.guard ++ line (codes "}")))

abbrev pub canonical_text : grammar.File → List ℕ
canonical_text f =
    line (codes "system " ++ (f.name ++ codes ";"))
    ++ (flat_map sort_line f.sorts
    ++ (flat_map function_line f.functions
    ++ (flat_map constant_line f.constants
    ++ (flat_map variable_line f.variables
    ++ (flat_map relation_line f.relations
    ++ (flat_map step_lines f.steps
    ++ flat_map goal_lines f.goals))))))
