-- The inside of a step, in the words of what was read of it.
use Rattle.std.proofs.Common.{◌≡◌, List, ◌++◌, map, ◌∙◌, ap, subst, append-nil}
use Rattle.std.specs.Prelude.{All, None, Option}
use Rattle.ras_syntax.specs.Grammar.{Text}
use Rattle.ras_syntax.specs.Grammar as grammar
use Rattle.ras_names.specs.Placed as placed
use Rattle.ras_names.specs.Placed.{Declared as Item}
use Rattle.ras_names.specs.Unplaced.{row_of, param_of, each_of, step_of}
use Rattle.ras_names.specs.FileNames.{names_of_step}
use Rattle.ras_names.specs.Checks.{Check, for_each, declared_texts}
use Rattle.ras_names.specs.StepChecks.{row_checks, param_checks, inside_checks}
use Rattle.ras_names.proofs.Among.{map-map}
use Rattle.ras_names.proofs.Passing.{Passes, pass_both}
use Rattle.ras_numbering.specs.Numbers.{declared_sort, declared_relation}
use Rattle.ras_numbering.specs.FileValues.{step_names}
use Rattle.ras_scope.specs.declared.scope.Scope.{Scope}
use Rattle.ras_scope.specs.declared.scope.EachRow.{EachRow}
use Rattle.ras_scope.specs.declared.fault.SpecError.{SpecError}
use Rattle.ras_scope.specs.Answering.{Faults}
use Rattle.ras_scope.specs.Agreeing.{Agrees, IsOfSort}
use Rattle.ras_elab.specs.Bodies.{IsOfRelation, body_checks}
use Rattle.ras_scope.specs.Scopes.{each_names}
use Rattle.ras_scope.specs.Seeing.{Sees, each_relations}
use Rattle.ras_scope.proofs.Following.{faults_stay, faults_follow}

-- what is read of rows and data parameters is what a step sees
pub sees_step : (scope : Scope) (p : placed.File) (rows params : List Item) → Agrees p scope.declared.now → scope.each ≡ None → scope.rows.now.names ≡ declared_texts rows
    → scope.rows.now.values.items ≡ map (declared_relation p) rows → All (IsOfRelation p) rows → scope.params.now.names ≡ declared_texts params
    → scope.params.now.values.items ≡ map (declared_sort p) params → All (IsOfSort p) params → Sees scope (record { file = p; rows = rows; params = params })
sees_step scope p rows params agrees none row_names relations known_rows param_names sorts known_params = record {
  agrees = agrees;
  rows = ap (λ (e : Option EachRow). scope.rows.now.names ++ each_names e) none ∙ append-nil scope.rows.now.names ∙ row_names;
  relations = ap (λ (e : Option EachRow). scope.rows.now.values.items ++ each_relations e) none ∙ append-nil scope.rows.now.values.items ∙ relations;
  known_relations = known_rows;
  params = param_names;
  sorts = sorts;
  known_sorts = known_params;
}

-- the names of a step
pub step_names_are : (s : placed.Step) → names_of_step (step_of s) ≡ record { name = s.name.text; rows = declared_texts s.rows; params = declared_texts s.params; each = map (λ (e : placed.Each). e.row.text) s.eachs }
step_names_are s = λ i. record {
  name = s.name.text;
  rows = map-map (λ (r : grammar.Row). r.name) row_of s.rows i;
  params = map-map (λ (r : grammar.Param). r.name) param_of s.params i;
  each = map-map (λ (e : grammar.Each). e.row) each_of s.eachs i;
}

module _ (p : placed.File) (shared : List Text) (s : placed.Step) where
  abbrev pub row_part : List Check
  row_part = for_each (row_checks p shared s.rows) s.rows

  abbrev pub param_part : List Text → List Check
  param_part rows = for_each (param_checks p (shared ++ rows) s.params) s.params

  abbrev pub body_part : List Text → List Text → List Check
  body_part rows params = body_checks (step_names p s) (shared ++ (rows ++ params)) s

  abbrev pub all_parts : List Text → List Text → List Check
  all_parts rows params = row_part ++ (param_part rows ++ body_part rows params)

  pub same_inside : (rows params : List Text) → rows ≡ declared_texts s.rows → params ≡ declared_texts s.params → all_parts rows params ≡ inside_checks p shared s
  same_inside rows params r q = λ i. all_parts (r i) (q i)

  pub rows_fail : (e : SpecError) → Faults row_part e → Faults (inside_checks p shared s) e
  rows_fail e h = faults_stay row_part (param_part (declared_texts s.rows) ++ body_part (declared_texts s.rows) (declared_texts s.params)) e h

  module _ (rows : List Text) (r : rows ≡ declared_texts s.rows) (pass : Passes row_part) where
    pub params_fail : (e : SpecError) → Faults (param_part rows) e → Faults (inside_checks p shared s) e
    params_fail e h =
        subst (λ (cs : List Check). Faults cs e) (λ i. all_parts (r i) (declared_texts s.params))
        (faults_follow row_part (param_part rows ++ body_part rows (declared_texts s.params)) e pass (faults_stay (param_part rows) (body_part rows (declared_texts s.params)) e h))

    module _ (params : List Text) (q : params ≡ declared_texts s.params) (also : Passes (param_part rows)) where
      pub body_fails : (e : SpecError) → Faults (body_part rows params) e → Faults (inside_checks p shared s) e
      body_fails e h =
          subst (λ (cs : List Check). Faults cs e) (same_inside rows params r q)
          (faults_follow row_part (param_part rows ++ body_part rows params) e pass (faults_follow (param_part rows) (body_part rows params) e also h))

      pub inside_passes : Passes (body_part rows params) → Passes (inside_checks p shared s)
      inside_passes h =
          subst Passes (same_inside rows params r q) (pass_both row_part (param_part rows ++ body_part rows params) pass (pass_both (param_part rows) (body_part rows params) also h))
