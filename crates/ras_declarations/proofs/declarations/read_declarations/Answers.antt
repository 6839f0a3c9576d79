use Rattle.std.proofs.Common.{◌++◌, List}
use Rattle.ras_names.specs.Checks.{Check, for_each}
use Rattle.ras_names.specs.FileChecks.{sort_checks, function_checks, constant_checks, variable_checks, relation_checks}
use Rattle.ras_names.proofs.Passing.{Passes, pass_both}
use Rattle.ras_declarations.specs.Declaring.{schema_checks, declaration_checks}
use Rattle.ras_scope.specs.Placing.{placed_file}
use Rattle.ras_names.specs.Placed as placed
use Rattle.ras_scope.specs.declared.fault.SpecError.{SpecError}
use Rattle.ras_scope.specs.Answering.{Faults}
use Rattle.ras_scope.proofs.Following.{handed, faults_stay, faults_follow}
use Rattle.ras_declarations.proofs.declarations.read_declarations.Goals as goal

abbrev sorts : placed.File → List Check
sorts p = for_each (sort_checks p) p.sorts

abbrev functions : placed.File → List Check
functions p = for_each (function_checks p) p.functions

abbrev constants : placed.File → List Check
constants p = for_each (constant_checks p) p.constants

abbrev variables : placed.File → List Check
variables p = for_each (variable_checks p) p.variables

abbrev relations : placed.File → List Check
relations p = for_each (relation_checks p) p.relations

-- a fault of the sorts, the functions or the constants comes before those of the variables and the relations
schema_fails : (p : placed.File) (e : SpecError) → Faults (schema_checks p) e → Faults (declaration_checks p) e
schema_fails p e h = faults_stay (schema_checks p) (variables p ++ relations p) e h

schema_passes : (p : placed.File) → Passes (sorts p) → Passes (functions p) → Passes (constants p) → Passes (schema_checks p)
schema_passes p s f c = pass_both (sorts p) (functions p ++ constants p) s (pass_both (functions p) (constants p) f c)

pub returns-in_err-read_sorts-clause-checks : goal.returns-in_err-read_sorts-clause-checks
returns-in_err-read_sorts-clause-checks c =
    let p = placed_file c.args.file.now in
    let e = c.in_err-read_sorts.field-0.0 in
    handed (declaration_checks p) c.from_residual.result e c.from_residual.ensures.1
    (schema_fails p e (faults_stay (sorts p) (functions p ++ constants p) e c.in_err-read_sorts.ensures.checks))

pub returns-in_err-read_functions-clause-checks : goal.returns-in_err-read_functions-clause-checks
returns-in_err-read_functions-clause-checks c =
    let p = placed_file c.args.file.now in
    let e = c.in_err-read_functions.field-0.0 in
    handed (declaration_checks p) c.from_residual-in_err-read_functions.result e c.from_residual-in_err-read_functions.ensures.1
    (schema_fails p e (faults_follow (sorts p) (functions p ++ constants p) e c.in_ok-read_sorts.ensures.checks (faults_stay (functions p) (constants p) e c.in_err-read_functions.ensures.checks)))

pub returns-in_err-read_constants-clause-checks : goal.returns-in_err-read_constants-clause-checks
returns-in_err-read_constants-clause-checks c =
    let p = placed_file c.args.file.now in
    let e = c.in_err-read_constants.field-0.0 in
    handed (declaration_checks p) c.from_residual-in_err-read_constants.result e c.from_residual-in_err-read_constants.ensures.1
    (schema_fails p e (faults_follow (sorts p) (functions p ++ constants p) e c.in_ok-read_sorts.ensures.checks
    (faults_follow (functions p) (constants p) e c.in_ok-read_functions.ensures.checks c.in_err-read_constants.ensures.checks)))

pub returns-in_err-read_variables-clause-checks : goal.returns-in_err-read_variables-clause-checks
returns-in_err-read_variables-clause-checks c =
    let p = placed_file c.args.file.now in
    let e = c.in_err-read_variables.field-0.0 in
    handed (declaration_checks p) c.from_residual-in_err-read_variables.result e c.from_residual-in_err-read_variables.ensures.1
    (faults_follow (schema_checks p) (variables p ++ relations p) e
    (schema_passes p c.in_ok-read_sorts.ensures.checks c.in_ok-read_functions.ensures.checks c.in_ok-read_constants.ensures.checks)
    (faults_stay (variables p) (relations p) e c.in_err-read_variables.ensures.checks))

pub returns-in_err-read_relations-clause-checks : goal.returns-in_err-read_relations-clause-checks
returns-in_err-read_relations-clause-checks c =
    let p = placed_file c.args.file.now in
    let e = c.in_err-read_relations.field-0.0 in
    handed (declaration_checks p) c.from_residual-in_err-read_relations.result e c.from_residual-in_err-read_relations.ensures.1
    (faults_follow (schema_checks p) (variables p ++ relations p) e
    (schema_passes p c.in_ok-read_sorts.ensures.checks c.in_ok-read_functions.ensures.checks c.in_ok-read_constants.ensures.checks)
    (faults_follow (variables p) (relations p) e c.in_ok-read_variables.ensures.checks c.in_err-read_relations.ensures.checks))

pub returns : goal.returns
returns c =
    let p = placed_file c.args.file.now in
    let functions_are = c.in_ok-read_functions.ensures.functions in
    let constants_are = c.in_ok-read_constants.ensures.constants in
    let variables_are = c.in_ok-read_variables.ensures.variables in
    let relations_are = c.in_ok-read_relations.ensures.relations in
    record {
      checks = pass_both (schema_checks p) (variables p ++ relations p)
          (schema_passes p c.in_ok-read_sorts.ensures.checks c.in_ok-read_functions.ensures.checks c.in_ok-read_constants.ensures.checks)
          (pass_both (variables p) (relations p) c.in_ok-read_variables.ensures.checks c.in_ok-read_relations.ensures.checks);
      items = record {
        agrees = record {
          sorts = c.in_ok-read_sorts.ensures.sorts.all_sorts;
          functions = functions_are.names;
          function_values = functions_are.values;
          function_sorts = functions_are.sort_texts;
          constants = constants_are.names;
          constant_values = constants_are.values;
          constant_sorts = constants_are.sort_texts;
          variables = variables_are.names;
          variable_values = variables_are.values;
          variable_sorts = variables_are.sort_texts;
          relations = relations_are.names;
          column_names = relations_are.columns;
          column_values = relations_are.values;
          column_sorts = relations_are.sort_texts;
        };
        shared_names = c.in_ok-read_relations.ensures.shared;
        initials = variables_are.initials;
      };
    }
