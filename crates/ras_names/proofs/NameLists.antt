-- The lists of names of a file, as the checks read them.
use Rattle.std.proofs.Common.{◌≡◌, ℕ, List, ◌++◌, length, take, map, sym, ◌∙◌, ap, arith}
use Rattle.std.proofs.lemmas.List.{length-map, take-map, take_all}
use Rattle.ras_syntax.specs.Grammar as grammar
use Rattle.ras_syntax.specs.Grammar.{Text}
use Rattle.ras_names.specs.declared.names.RelNames.{RelNames}
use Rattle.ras_names.specs.declared.names.StepNames.{StepNames}
use Rattle.ras_names.specs.declared.names.Names.{Names}
use Rattle.ras_names.specs.FileNames.{names_of, names_of_relation, names_of_step}
use Rattle.ras_names.specs.NewNames.{relation_names, declared_names, shared_names}
use Rattle.ras_names.specs.Placed as placed
use Rattle.ras_names.specs.Placed.{Name, Declared, columns}
use Rattle.ras_names.specs.Unplaced.{function_of, constant_of, variable_of, column_of, relation_of, step_of, file_of}
use Rattle.ras_names.specs.Checks.{texts, declared_texts}
use Rattle.ras_names.specs.TermChecks.{function_texts}
use Rattle.ras_names.specs.StepChecks.{variable_texts, relation_texts}
use Rattle.ras_names.specs.FileChecks as checks
use Rattle.ras_names.specs.FileChecks.{above_constants, above_variables, above_relations, above_steps}
use Rattle.ras_names.proofs.Among.{map-map}

pub both : (a b c d : List Text) → a ≡ b → c ≡ d → a ++ c ≡ b ++ d
both a b c d one other = ap (λ (z : List Text). z ++ c) one ∙ ap (λ (z : List Text). b ++ z) other

pub columns_are : (r : placed.Relation) → (names_of_relation (relation_of r)).columns ≡ declared_texts (columns r)
columns_are r = map-map (λ (c : grammar.Column). c.name) column_of (columns r)

module _ (p : placed.File) where
  abbrev names : Names
  names = names_of (file_of p)

  -- the lists of names, as the checks read them
  pub sorts_are : names.sorts ≡ texts p.sorts
  sorts_are = map-map (λ (s : grammar.Sort). s.name) (λ (n : Name). record { name = n.text }) p.sorts

  pub functions_are : names.functions ≡ function_texts p.functions
  functions_are = map-map (λ (f : grammar.Function). f.name) function_of p.functions

  pub constants_are : names.constants ≡ declared_texts p.constants
  constants_are = map-map (λ (c : grammar.Constant). c.name) constant_of p.constants

  pub vars_are : names.vars ≡ variable_texts p
  vars_are = map-map (λ (v : grammar.Variable). v.name) variable_of p.variables

  pub relations_are : relation_names names ≡ relation_texts p
  relations_are = map-map (λ (r : RelNames). r.name) names_of_relation (map relation_of p.relations) ∙ map-map (λ (r : grammar.Relation). r.name) relation_of p.relations

  -- the shared names above the items of each kind
  pub functions_above : names.sorts ++ names.functions ≡ above_constants p
  functions_above = both names.sorts (texts p.sorts) names.functions (function_texts p.functions) sorts_are functions_are

  pub constants_above : (names.sorts ++ names.functions) ++ names.constants ≡ above_variables p
  constants_above = both (names.sorts ++ names.functions) (above_constants p) names.constants (declared_texts p.constants) functions_above constants_are

  pub variables_above : ((names.sorts ++ names.functions) ++ names.constants) ++ names.vars ≡ above_relations p
  variables_above = both ((names.sorts ++ names.functions) ++ names.constants) (above_variables p) names.vars (variable_texts p) constants_above vars_are

  pub relations_above : declared_names names ≡ above_steps p
  relations_above = both (((names.sorts ++ names.functions) ++ names.constants) ++ names.vars) (above_relations p) (relation_names names) (relation_texts p) variables_above relations_are

  pub step_texts : (steps : List placed.Step) → map (λ (s : StepNames). s.name) (map names_of_step (map step_of steps)) ≡ map (λ (s : placed.Step). s.name.text) steps
  step_texts steps = map-map (λ (s : StepNames). s.name) names_of_step (map step_of steps) ∙ map-map (λ (s : grammar.Step). s.name) step_of steps

  pub steps_above : (n : ℕ) → shared_names names (take n names.steps) ≡ checks.above_step p n
  steps_above n =
      let taken : take n names.steps ≡ map names_of_step (map step_of (take n p.steps)) =
      take-map names_of_step n (map step_of p.steps) ∙ ap (map names_of_step) (take-map step_of n p.steps) in
      both (declared_names names) (above_steps p) (map (λ (s : StepNames). s.name) (take n names.steps)) (map (λ (s : placed.Step). s.name.text) (take n p.steps)) relations_above
      (ap (map (λ (s : StepNames). s.name)) taken ∙ step_texts (take n p.steps))

  pub shared_above : shared_names names names.steps ≡ checks.above_step p (length p.steps)
  shared_above =
      let whole : take (length p.steps) names.steps ≡ names.steps =
      take_all (length p.steps) names.steps (let n : length names.steps ≡ length p.steps = length-map (map step_of p.steps) names_of_step ∙ length-map p.steps step_of in omega (arith, n)) in
      ap (shared_names names) (sym whole) ∙ steps_above (length p.steps)
