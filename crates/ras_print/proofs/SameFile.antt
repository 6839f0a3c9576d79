-- A system with its names is written as the canonical text of what denotes it.
use Rattle.std.proofs.Common.{◌≡◌, ℕ, suc, ◌+◌, List, [], ◌∷◌, ◌++◌, Bool, refl, sym, ◌∙◌, ap, subst, map, flat_map, codes, arith}
use Rattle.std.specs.Prelude.{slice_get, Some, None, Option}
use Rattle.std.proofs.lemmas.List.Folds.{flat_map-map}
use Rattle.ras_logic.specs.declared.ids.SortId.{SortId}
use Rattle.ras_logic.specs.declared.ids.ConstId.{ConstId}
use Rattle.ras_logic.specs.declared.function.FunDecl.{FunDecl}
use Rattle.ras_logic.proofs.ByPlace.{map-at}
use Rattle.ras_system.specs.Systems.{SystemParts}
use Rattle.ras_syntax.specs.Grammar as grammar
use Rattle.ras_syntax.specs.Grammar.{Text}
use Rattle.ras_names.specs.declared.names.RelNames.{RelNames}
use Rattle.ras_names.specs.declared.names.StepNames.{StepNames}
use Rattle.ras_names.specs.declared.names.Names.{Names}
use Rattle.ras_names.specs.FileParts.{columns}
use Rattle.ras_names.specs.FileNames.{names_of, names_of_relation, names_of_step}
use Rattle.ras_names.specs.Steps.{StepDenotes}
use Rattle.ras_names.specs.Files.{IsSortNamed, FunctionDenotes, InitialDenotes, ColumnsDenote, FileDenotes}
use Rattle.ras_names.specs.Canonical.{line, joined, column_text, sort_line, function_line, constant_line, variable_line, relation_line, step_lines, goal_lines, canonical_text}
use Rattle.ras_names.proofs.ClearNames.{relations-numbered}
use Rattle.ras_names.proofs.Together.{one_by_one-to}
use Rattle.ras_print.specs.Lookup.{name_at, name_of_relation, names_of_columns, constant_name}
use Rattle.ras_print.specs.Printed.{numbered, behind, numbered_list, sort_text, function_text, constant_text, variable_text, relation_column, relation_text, step_of, step_at, goal_texts, printed}
use Rattle.ras_print.proofs.Sames.{two, same-numbered}
use Rattle.ras_print.proofs.SameTerms.{named}
use Rattle.ras_print.proofs.SameSteps.{step-same, goals-same}

from_zero : {B : Type 0} (g : ℕ → B → List ℕ) (k : ℕ) (y : B) → g k y ≡ g (0 + k) y
from_zero g k y = let z : k ≡ 0 + k = omega arith in ap (λ (n : ℕ). g n y) z

module _ (file : grammar.File) (system : SystemParts) (h : FileDenotes file system (names_of file)) where
  abbrev names : Names
  names = names_of file

  sorts-same : flat_map sort_line file.sorts ≡ flat_map sort_text names.sorts
  sorts-same = sym (flat_map-map sort_text (λ (s : grammar.Sort). s.name) file.sorts)

  function-same : (k : ℕ) (f : grammar.Function) (d : FunDecl) → slice_get file.functions k ≡ Some f → FunctionDenotes names f d → function_line f ≡ function_text names k d
  function-same k f d e r =
      let make : Bool → Text → Text → Text → List ℕ = λ t n a b. function_line (record { total = t; name = n; source = a; target = b }) in
      sym (ap (λ (t : Bool). make t (name_at names.functions k) (name_at names.sorts d.source.n) (name_at names.sorts d.target.n)) r.total
      ∙ ap (λ (n : Text). make f.total n (name_at names.sorts d.source.n) (name_at names.sorts d.target.n))
      (named names.functions f.name k (map-at (λ (g : grammar.Function). g.name) file.functions k f e))
      ∙ ap (λ (a : Text). make f.total f.name a (name_at names.sorts d.target.n)) (named names.sorts f.source d.source.n r.source)
      ∙ ap (make f.total f.name f.source) (named names.sorts f.target d.target.n r.target))

  functions-same : flat_map function_line file.functions ≡ numbered (function_text names) 0 system.shape.schema.functions
  functions-same =
      same-numbered (FunctionDenotes names) function_line (function_text names) 0 file.functions system.shape.schema.functions
      (λ k f d e i r. function-same k f d e r ∙ from_zero (function_text names) k d) h.functions

  constant-same : (k : ℕ) (c : grammar.Constant) (s : SortId) → slice_get file.constants k ≡ Some c → IsSortNamed names c.sort s → constant_line c ≡ constant_text names k s
  constant-same k c s e r =
      let make : Text → Text → List ℕ = λ n a. constant_line (record { name = n; sort = a }) in
      sym (ap (λ (n : Text). make n (name_at names.sorts s.n)) (named names.constants c.name k (map-at (λ (g : grammar.Constant). g.name) file.constants k c e))
      ∙ ap (make c.name) (named names.sorts c.sort s.n r))

  constants-same : flat_map constant_line file.constants ≡ numbered (constant_text names) 0 system.shape.schema.constants
  constants-same =
      same-numbered (λ (c : grammar.Constant). IsSortNamed names c.sort) constant_line (constant_text names) 0 file.constants system.shape.schema.constants
      (λ k c s e i r. constant-same k c s e r ∙ from_zero (constant_text names) k s) h.constants

  initial-same : (name : Option Text) (c : Option ConstId) → InitialDenotes names name c → constant_name names (Some c) ≡ name
  initial-same None None r = refl
  initial-same None (Some c) r = absurd r
  initial-same (Some name) None r = absurd r
  initial-same (Some name) (Some c) r = ap (λ (n : Text). Some n) (named names.constants name c.n r)

  variable-same : (k : ℕ) (v : grammar.Variable) (s : SortId) → slice_get file.variables k ≡ Some v → IsSortNamed names v.sort s
      → variable_line v ≡ variable_text names system.initial k s
  variable-same k v s e r =
      let make : Text → Text → Option Text → List ℕ = λ n a i. variable_line (record { name = n; sort = a; initial = i }) in
      let initial = one_by_one-to (λ (w : grammar.Variable). InitialDenotes names w.initial) file.variables system.initial k v h.initial e in
      sym (ap (λ (n : Text). make n (name_at names.sorts s.n) (constant_name names (slice_get system.initial k)))
      (named names.vars v.name k (map-at (λ (g : grammar.Variable). g.name) file.variables k v e))
      ∙ ap (λ (a : Text). make v.name a (constant_name names (slice_get system.initial k))) (named names.sorts v.sort s.n r)
      ∙ ap (make v.name v.sort) (ap (constant_name names) initial.1 ∙ initial-same v.initial initial.0 initial.2))

  variables-same : flat_map variable_line file.variables ≡ numbered (variable_text names system.initial) 0 system.shape.vars
  variables-same =
      same-numbered (λ (v : grammar.Variable). IsSortNamed names v.sort) variable_line (variable_text names system.initial) 0 file.variables system.shape.vars
      (λ k v s e i r. variable-same k v s e r ∙ from_zero (variable_text names system.initial) k s) h.variables

  column-same : (r : grammar.Relation) (k : ℕ) (c : grammar.Column) (s : SortId) → slice_get (columns r) k ≡ Some c → IsSortNamed names c.sort s
      → column_text c ≡ relation_column names (names_of_relation r).columns k s
  column-same r k c s e d =
      let make : Text → Text → List ℕ = λ n a. column_text (record { name = n; sort = a }) in
      sym (ap (λ (n : Text). make n (name_at names.sorts s.n))
      (named (names_of_relation r).columns c.name k (map-at (λ (g : grammar.Column). g.name) (columns r) k c e))
      ∙ ap (make c.name) (named names.sorts c.sort s.n d))

  columns-same : (r : grammar.Relation) (sorts : List SortId) → ColumnsDenote names r sorts
      → joined (codes ", ") (map column_text (columns r)) ≡ numbered_list (relation_column names (names_of_relation r).columns) (codes ", ") sorts
  columns-same r [] d = absurd d
  columns-same r (s ∷ sorts) d =
      let text : ℕ → SortId → List ℕ = relation_column names (names_of_relation r).columns in
      let after : ℕ → SortId → List ℕ = behind (codes ", ") text in
      let front : List ℕ → List ℕ = λ u. codes ", " ++ u in
      two (column_text r.first) (text 0 s) (flat_map front (map column_text r.others)) (numbered after 1 sorts)
      (column-same r 0 r.first s refl d.0)
      (flat_map-map front column_text r.others
      ∙ same-numbered (λ (c : grammar.Column). IsSortNamed names c.sort) (λ (c : grammar.Column). front (column_text c)) after 1 r.others sorts
      (λ k c y e i q. ap front (column-same r (suc k) c y e q ∙ (let z : suc k ≡ 1 + k = omega arith in ap (λ (n : ℕ). text n y) z))) d.1)

  relation-same : (k : ℕ) (r : grammar.Relation) (sorts : List SortId) → slice_get file.relations k ≡ Some r → ColumnsDenote names r sorts
      → relation_line r ≡ relation_text names k sorts
  relation-same k r sorts e d =
      let at : slice_get names.relations k ≡ Some (names_of_relation r) = map-at names_of_relation file.relations k r e in
      let make : Option RelNames → List ℕ = λ o. line (codes "relation " ++ (name_of_relation o ++ (codes " (" ++ (numbered_list (relation_column names (names_of_columns o)) (codes ", ") sorts ++ codes ");")))) in
      ap (λ (x : List ℕ). line (codes "relation " ++ (r.name ++ (codes " (" ++ (x ++ codes ");"))))) (columns-same r sorts d)
      ∙ ap make (sym at)

  relations-same : flat_map relation_line file.relations ≡ numbered (relation_text names) 0 system.shape.relations
  relations-same =
      same-numbered (ColumnsDenote names) relation_line (relation_text names) 0 file.relations system.shape.relations
      (λ k r s e i d. relation-same k r s e d ∙ from_zero (relation_text names) k s) h.relations

  steps-same : flat_map step_lines file.steps ≡ numbered (step_at names) 0 system.transitions
  steps-same =
      same-numbered (StepDenotes names) step_lines (step_at names) 0 file.steps system.transitions
      (λ k s t e i d. step-same names (relations-numbered names h.new_names) s t d
      ∙ ap (λ (o : Option StepNames). step_of names o t) (sym (map-at names_of_step file.steps k s e)) ∙ from_zero (step_at names) k t) h.steps

  file-same : canonical_text file ≡ printed system names
  file-same =
      let g : List ℕ → List ℕ → List ℕ → List ℕ → List ℕ → List ℕ → List ℕ → List ℕ =
      λ a b c d e f i. line (codes "system " ++ (names.system ++ codes ";")) ++ (a ++ (b ++ (c ++ (d ++ (e ++ (f ++ i)))))) in
      let goals : flat_map goal_lines file.goals ≡ goal_texts names names.goals system.goals = goals-same names file.goals system.goals h.goals in
      let fs = flat_map step_lines file.steps in
      let fg = flat_map goal_lines file.goals in
      let fr = flat_map relation_line file.relations in
      let fv = flat_map variable_line file.variables in
      let fc = flat_map constant_line file.constants in
      let ff = flat_map function_line file.functions in
      ap (λ (x : List ℕ). g x ff fc fv fr fs fg) sorts-same
      ∙ ap (λ (x : List ℕ). g (flat_map sort_text names.sorts) x fc fv fr fs fg) functions-same
      ∙ ap (λ (x : List ℕ). g (flat_map sort_text names.sorts) (numbered (function_text names) 0 system.shape.schema.functions) x fv fr fs fg) constants-same
      ∙ ap (λ (x : List ℕ). g (flat_map sort_text names.sorts) (numbered (function_text names) 0 system.shape.schema.functions) (numbered (constant_text names) 0 system.shape.schema.constants) x fr fs fg) variables-same
      ∙ ap (λ (x : List ℕ). g (flat_map sort_text names.sorts) (numbered (function_text names) 0 system.shape.schema.functions) (numbered (constant_text names) 0 system.shape.schema.constants) (numbered (variable_text names system.initial) 0 system.shape.vars) x fs fg) relations-same
      ∙ ap (λ (x : List ℕ). g (flat_map sort_text names.sorts) (numbered (function_text names) 0 system.shape.schema.functions) (numbered (constant_text names) 0 system.shape.schema.constants) (numbered (variable_text names system.initial) 0 system.shape.vars) (numbered (relation_text names) 0 system.shape.relations) x fg) steps-same
      ∙ ap (g (flat_map sort_text names.sorts) (numbered (function_text names) 0 system.shape.schema.functions) (numbered (constant_text names) 0 system.shape.schema.constants) (numbered (variable_text names system.initial) 0 system.shape.vars) (numbered (relation_text names) 0 system.shape.relations) (numbered (step_at names) 0 system.transitions)) goals

pub printed_is_canonical : (file : grammar.File) (system : SystemParts) (own : Names) → FileDenotes file system own → printed system own ≡ canonical_text file
printed_is_canonical file system own h = ap (printed system) h.own_names ∙ sym (file-same file system (subst (FileDenotes file system) h.own_names h))

pub one_text : (file other : grammar.File) (system : SystemParts) (own : Names) → FileDenotes file system own → FileDenotes other system own → canonical_text file ≡ canonical_text other
one_text file other system own h k = sym (printed_is_canonical file system own h) ∙ printed_is_canonical other system own k
