-- The checks of a step.
use Rattle.std.specs.Prelude.{ℕ, Bool, true, false, not, ◌&&◌, List, [], ◌∷◌, ◌++◌, Option, Some, None, nat_le, map, length, take, flat_map}
use Rattle.std.specs.List.{list_any}
use Rattle.std.specs.Str.{bytes_eq}
use Rattle.ras_syntax.specs.Grammar.{Text}
use Rattle.ras_names.specs.declared.spec_fault.SpecKind.TheVariants.{WrongSort, TooMany, RepeatedTarget}
use Rattle.ras_names.specs.Placed as placed
use Rattle.ras_names.specs.Placed.{Name, Declared, cases}
use Rattle.ras_names.specs.Checks.{Check, check, for_each, for_each_from, is_among, texts, declared_texts, declared_of, new_check, declared_checks, used_check}
use Rattle.ras_names.specs.TermChecks.{Scope, agree, variable_sort, columns_named, cell_checks, cell_sort, term_sort, term_checks, conjunction_checks, guard_checks}

abbrev pub variable_texts : placed.File → List Text
variable_texts file = map (λ (v : placed.Variable). v.name.text) file.variables

abbrev pub relation_texts : placed.File → List Text
relation_texts file = map (λ (r : placed.Relation). r.name.text) file.relations

-- the rows of a step or of an unsafe item, at most 8, below these shared names
abbrev pub row_checks : placed.File → List Text → List Declared → ℕ → Declared → List Check
row_checks file above rows n row =
    declared_checks 8 n (above ++ declared_texts (take n rows)) row.name ++ used_check (relation_texts file) row.of ∷ []

-- the data parameters of a step, at most 16, below these shared names and rows
abbrev pub param_checks : placed.File → List Text → List Declared → ℕ → Declared → List Check
param_checks file above params n param =
    declared_checks 16 n (above ++ declared_texts (take n params)) param.name ++ used_check (texts file.sorts) param.of ∷ []

abbrev pub is_same_column : Option Name → Option Name → Bool
is_same_column None None = true
is_same_column None (Some c) = false
is_same_column (Some b) None = false
is_same_column (Some b) (Some c) = bytes_eq b.text c.text

abbrev pub is_same_target : placed.Update → placed.Update → Bool
is_same_target u w = bytes_eq u.name.text w.name.text && is_same_column u.column w.column

-- the names of a target: a variable, or a cell of a row parameter
abbrev pub target_checks : Scope → Name → Option Name → List Check
target_checks scope name None = used_check (variable_texts scope.file) name ∷ []
target_checks scope name (Some column) = cell_checks scope name column

abbrev pub target_sort : Scope → Name → Option Name → Option Text
target_sort scope name None = declared_of (map variable_sort scope.file.variables) name.text
target_sort scope name (Some column) = cell_sort scope name column

-- the target, the term, the sign
abbrev pub update_checks : Scope → List placed.Update → ℕ → placed.Update → List Check
update_checks scope updates n u =
    target_checks scope u.name u.column
    ++ (check u.name.at RepeatedTarget (list_any (is_same_target u) (take n updates))
    ∷ term_checks scope u.term
    ++ (check u.at WrongSort (not (agree (target_sort scope u.name u.column) (term_sort scope u.term))) ∷ []))

-- an assignment of a case: the row is that of the `each`
abbrev pub assignment_checks : Scope → placed.Each → List placed.Assignment → ℕ → placed.Assignment → List Check
assignment_checks scope e assignments n a =
    used_check (e.row.text ∷ []) a.row
    ∷ used_check (declared_texts (columns_named scope.file e.relation.text)) a.column
    ∷ check a.row.at RepeatedTarget (is_among (map (λ (b : placed.Assignment). b.column.text) (take n assignments)) a.column.text)
    ∷ term_checks scope a.term
    ++ (check a.at WrongSort (not (agree (declared_of (columns_named scope.file e.relation.text) a.column.text) (term_sort scope a.term))) ∷ [])

-- the n-th case of a step, of at most 8, with a condition of at most 16 literals
abbrev pub case_checks : Scope → placed.Each → ℕ → placed.Case → List Check
case_checks scope e n c =
    check c.at TooMany (nat_le 8 n)
    ∷ conjunction_checks scope 16 c.condition
    ++ for_each (assignment_checks scope e c.assignments) c.assignments

abbrev pub case_count : List placed.Each → ℕ
case_count eachs = length (flat_map cases eachs)

-- inside an `each` its row may be used too
abbrev pub with_row : Scope → placed.Each → Scope
with_row scope e = record scope { rows = scope.rows ++ record { name = e.row; of = e.relation } ∷ [] }

-- an `each`: its row, its relation, its cases
abbrev pub each_checks : Scope → List Text → List placed.Each → ℕ → placed.Each → List Check
each_checks scope names eachs n e =
    new_check names e.row
    ∷ used_check (relation_texts scope.file) e.relation
    ∷ check e.relation.at RepeatedTarget (is_among (map (λ (d : placed.Each). d.relation.text) (take n eachs)) e.relation.text)
    ∷ for_each_from (case_count (take n eachs)) (case_checks (with_row scope e) e) (cases e)

-- the inside of a step below these shared names
abbrev pub inside_checks : placed.File → List Text → placed.Step → List Check
inside_checks file above s =
    let scope : Scope = record { file = file; rows = s.rows; params = s.params } in
    for_each (row_checks file above s.rows) s.rows
    ++ (for_each (param_checks file (above ++ declared_texts s.rows) s.params) s.params
    ++ (guard_checks scope 0 s.guard
    ++ (for_each (update_checks scope s.updates) s.updates
    ++ for_each (each_checks scope (above ++ (declared_texts s.rows ++ declared_texts s.params)) s.eachs) s.eachs)))
