-- Where declared names are new, each has one meaning in the scopes of a file.
use Rattle.std.proofs.Common.{◌≡◌, ℕ, ◌+◌, List, [], ◌∷◌, ◌++◌, length, map, take, sym, subst, append-nil}
use Rattle.std.specs.Prelude.{slice_get, Some, All, Contains}
use Rattle.std.proofs.lemmas.Option.{slice_get_within, get_or_from_slice_get}
use Rattle.ras_logic.specs.declared.ids.RelId.{RelId}
use Rattle.ras_logic.proofs.ByPlace.{at_contains, contains-at, map-at}
use Rattle.ras_syntax.specs.Grammar as grammar
use Rattle.ras_syntax.specs.Grammar.{Text}
use Rattle.ras_names.specs.declared.names.RelNames.{RelNames}
use Rattle.ras_names.specs.declared.names.StepNames.{StepNames}
use Rattle.ras_names.specs.declared.names.GoalNames.{GoalNames}
use Rattle.ras_names.specs.declared.names.Names.{Names}
use Rattle.ras_names.specs.Lists.{HasNumber, AreDifferent}
use Rattle.ras_names.specs.FileNames.{names_of, names_of_rows, names_of_params, names_of_step, names_of_goal}
use Rattle.ras_names.specs.NewNames.{relation_names, declared_names, shared_names, above_step, AreNew, AreNewNames}
use Rattle.ras_names.proofs.Numbered.{in_left, in_right, AreNumbered, AreApart, different-numbered, left-numbered, right-numbered, numbered-apart, numbered-more}
use Rattle.ras_names.proofs.OneTerm.{IsClear}

pub all-at : {X : Type 0} (P : X → Type 0) (xs : List X) (k : ℕ) (x : X) → All P xs → slice_get xs k ≡ Some x → P x
all-at P xs k x h e = subst P (get_or_from_slice_get xs k x x e) (h k x (slice_get_within xs k x e))

module _ (names : Names) (h : AreNewNames names) where
  abbrev before_constants : List Text
  before_constants = names.sorts ++ names.functions

  abbrev before_vars : List Text
  before_vars = before_constants ++ names.constants

  abbrev before_relations : List Text
  before_relations = before_vars ++ names.vars

  pub declared : AreNumbered (declared_names names)
  declared = left-numbered (declared_names names) (map (λ (s : StepNames). s.name) names.steps) (different-numbered (shared_names names names.steps) h.shared)

  pub relations-numbered : AreNumbered (relation_names names)
  relations-numbered = right-numbered before_relations (relation_names names) declared

  pub variables : AreNumbered before_relations
  variables = left-numbered before_relations (relation_names names) declared

  pub constants : AreNumbered before_vars
  constants = left-numbered before_vars names.vars variables

  pub functions : AreNumbered before_constants
  functions = left-numbered before_constants names.constants constants

  pub sorts-numbered : AreNumbered names.sorts
  sorts-numbered = left-numbered names.sorts names.functions functions

  pub constants-numbered : AreNumbered names.constants
  constants-numbered = right-numbered before_constants names.constants constants

  -- where a constant and a variable stand among the declared names
  constant_declared : (name : Text) (i : ℕ) → HasNumber names.constants name i → (k : ℕ) × HasNumber (declared_names names) name k
  constant_declared name i a = (
    length before_constants + i,
    in_left before_relations (relation_names names) (length before_constants + i) name
        (in_left before_vars names.vars (length before_constants + i) name (in_right before_constants names.constants i name a)),
  )

  var_declared : (name : Text) (i : ℕ) → HasNumber names.vars name i → (k : ℕ) × HasNumber (declared_names names) name k
  var_declared name i a = (length before_vars + i, in_left before_relations (relation_names names) (length before_vars + i) name (in_right before_vars names.vars i name a))

  module _ (more rows params : List Text) (relations : List RelId) (different : AreDifferent ((declared_names names ++ more) ++ (rows ++ params))) where
    abbrev above : List Text
    above = declared_names names ++ more

    numbered : AreNumbered (above ++ (rows ++ params))
    numbered = different-numbered (above ++ (rows ++ params)) different

    own : AreNumbered (rows ++ params)
    own = right-numbered above (rows ++ params) numbered

    apart_from : (known : List Text) → ((name : Text) (i : ℕ) → HasNumber known name i → (k : ℕ) × HasNumber (declared_names names) name k) → AreApart known params
    apart_from known inside name i j a b =
        let d = inside name i a in
        numbered-apart above (rows ++ params) numbered name d.0 (length rows + j) (in_left (declared_names names) more d.0 name d.1) (in_right rows params j name b)

    pub item-clear : IsClear (record { names = names; rows = rows; relations = relations; params = params })
    item-clear = record {
      functions = right-numbered names.sorts names.functions functions;
      constants = constants-numbered;
      vars = right-numbered before_vars names.vars variables;
      params = right-numbered rows params own;
      rows = left-numbered rows params own;
      constants_vars = λ name i j a b. numbered-apart before_vars names.vars variables name (length before_constants + i) j (in_right before_constants names.constants i name a) b;
      constants_params = apart_from names.constants constant_declared;
      vars_params = apart_from names.vars var_declared;
      columns = λ k r e. different-numbered r.columns (all-at (λ (q : RelNames). AreDifferent q.columns) names.relations k r h.columns e);
    }

module _ (file : grammar.File) (h : AreNewNames (names_of file)) where
  abbrev names : Names
  names = names_of file

  module _ (k : ℕ) (s : grammar.Step) (at : slice_get file.steps k ≡ Some s) where
    new : AreNew (above_step names k) (names_of_rows s.rows ++ names_of_params s.params) (names_of_step s).each
    new = h.steps k (names_of_step s) (map-at names_of_step file.steps k s at)

    abbrev more : List Text
    more = map (λ (q : StepNames). q.name) (take (k + 1) names.steps)

    pub step-clear : (relations : List RelId) → IsClear (record { names = names; rows = names_of_rows s.rows; relations = relations; params = names_of_params s.params })
    step-clear relations = item-clear names h more (names_of_rows s.rows) (names_of_params s.params) relations new.own_names

    pub each-numbered : (j : ℕ) (e : grammar.Each) → slice_get s.eachs j ≡ Some e → AreNumbered (names_of_rows s.rows ++ e.row ∷ [])
    each-numbered j e found =
        let rows : List Text = names_of_rows s.rows in
        let own : List Text = rows ++ names_of_params s.params in
        let absent : Contains (above_step names k ++ own) e.row → ⊥ =
        all-at (λ (row : Text). Contains (above_step names k ++ own) row → ⊥) (names_of_step s).each j e.row new.each_rows (map-at (λ (d : grammar.Each). d.row) s.eachs j e found) in
        numbered-more rows e.row (step-clear []).rows
        (λ c. let i = contains-at rows e.row c in
        absent (at_contains (above_step names k ++ own) (length (above_step names k) + i.0) e.row
        (in_right (above_step names k) own i.0 e.row (in_left rows (names_of_params s.params) i.0 e.row i.1))))

  pub goal-clear : (k : ℕ) (g : grammar.Goal) → slice_get file.goals k ≡ Some g → (relations : List RelId)
      → IsClear (record { names = names; rows = names_of_rows g.rows; relations = relations; params = [] })
  goal-clear k g at relations =
      let rows : List Text = names_of_rows g.rows in
      let new : AreNew (shared_names names names.steps) rows [] = all-at (λ (q : GoalNames). AreNew (shared_names names names.steps) q.rows []) names.goals k (names_of_goal g) h.goals (map-at names_of_goal file.goals k g at) in
      item-clear names h (map (λ (q : StepNames). q.name) names.steps) rows [] relations
      (subst (λ (own : List Text). AreDifferent (shared_names names names.steps ++ own)) (sym (append-nil rows)) new.own_names)
