-- Terms and literals are written as what denotes them.
use Rattle.std.proofs.Common.{◌≡◌, ℕ, List, [], ◌∷◌, ◌++◌, Bool, refl, ◌∙◌, ap, map}
use Rattle.std.specs.Prelude.{Some, None, Option}
use Rattle.std.proofs.lemmas.Option.{get_or_from_slice_get}
use Rattle.ras_logic.specs.declared.ids.FunId.{FunId}
use Rattle.ras_logic.specs.declared.ids.RelId.{RelId}
use Rattle.ras_logic.specs.declared.term.Base.{Base}
use Rattle.ras_logic.specs.declared.term.Base.TheVariants.{Var, Cell, Constant, Undef, Param}
use Rattle.ras_logic.specs.declared.term.Term.{Term}
use Rattle.ras_logic.specs.declared.literal.Literal.{Literal}
use Rattle.ras_logic.specs.declared.literal.Literal.TheVariants.{Equal}
use Rattle.ras_system.specs.declared.update.Target.{Target}
use Rattle.ras_system.specs.declared.update.Target.TheVariants as target
use Rattle.ras_system.specs.declared.update.Update.{Update}
use Rattle.ras_system.specs.declared.bulk.Assign.{Assign}
use Rattle.ras_syntax.specs.Grammar as grammar
use Rattle.ras_syntax.specs.Grammar.{Text}
use Rattle.ras_names.specs.declared.names.RelNames.{RelNames}
use Rattle.ras_names.specs.declared.names.Names.{Names}
use Rattle.ras_names.specs.Lists.{HasNumber, OneByOne}
use Rattle.ras_names.specs.Terms.{Scope, IsCell, IsNamed, TermDenotes, LiteralDenotes, ConjunctionDenotes}
use Rattle.ras_names.specs.Steps.{TargetDenotes, UpdateDenotes, AssignmentDenotes}
use Rattle.ras_print.specs.Lookup.{name_at, names_of_columns, column_of, column_at}
use Rattle.ras_print.specs.Items.{called, base_item, term_item, literal_item, conjunction_item, update_of, update_item, assignment_item}
use Rattle.ras_print.proofs.Sames.{same-map}

pub named : (names : List Text) (name : Text) (n : ℕ) → HasNumber names name n → name_at names n ≡ name
named names name n h = get_or_from_slice_get names n name [] h

called-last : (names : Names) (fs : List FunId) (f : FunId) (inside : grammar.Term)
    → called names (fs ++ f ∷ []) inside ≡ grammar.call (name_at names.functions f.n) (called names fs inside)
called-last names [] f inside = refl
called-last names (g ∷ fs) f inside = called-last names fs f (grammar.call (name_at names.functions g.n) inside)

module _ (scope : Scope) where
  pub column-same : (row column : Text) (m n : ℕ) → IsCell scope row column m n → column_at scope.names scope.relations m n ≡ column
  column-same row column m n h =
      let r : RelId = h.1.0 in
      let q : RelNames = h.1.2.0 in
      ap (λ (o : Option RelId). column_of scope.names o n) h.1.1
      ∙ ap (λ (o : Option RelNames). name_at (names_of_columns o) n) h.1.2.1
      ∙ named q.columns column n h.1.2.2

  named-same : (name : Text) (b : Base) → IsNamed scope name b → base_item scope b ≡ grammar.plain name
  named-same name (Var v) h = ap grammar.plain (named scope.names.vars name v.n h)
  named-same name (Constant c) h = ap grammar.plain (named scope.names.constants name c.n h)
  named-same name (Param p) h = ap grammar.plain (named scope.params name p h)
  named-same name (Cell m n) h = absurd h
  named-same name (Undef s) h = absurd h

  pub term-same : (t : grammar.Term) (u : Term) → TermDenotes scope t u → term_item scope u ≡ t
  term-same (grammar.call name inside) u h =
      let v : Term = h.0 in
      let f : FunId = h.1 in
      ap (term_item scope) h.4
      ∙ called-last scope.names v.path f (base_item scope v.base)
      ∙ ap (λ (n : Text). grammar.call n (term_item scope v)) (named scope.names.functions name f.n h.3)
      ∙ ap (grammar.call name) (term-same inside v h.2)
  term-same (grammar.cell row column) u h =
      ap (term_item scope) h.3
      ∙ ap (λ (n : Text). grammar.cell n (column_at scope.names scope.relations h.0 h.1)) (named scope.rows row h.0 h.2.0)
      ∙ ap (grammar.cell row) (column-same row column h.0 h.1 h.2)
  term-same (grammar.plain name) u h = ap (term_item scope) h.2 ∙ named-same name h.0 h.1
  term-same grammar.undef u h = ap (term_item scope) h.1

  pub literal-same : (l : grammar.Literal) (x : Literal) → LiteralDenotes scope l x → literal_item scope x ≡ l
  literal-same l (Equal left right same) h =
      let make : grammar.Term → Bool → grammar.Term → grammar.Literal = λ a e b. record { left = a; equal = e; right = b } in
      ap (λ (a : grammar.Term). make a same (term_item scope right)) (term-same l.left left h.0)
      ∙ ap (λ (b : grammar.Term). make l.left same b) (term-same l.right right h.1)
      ∙ ap (λ (e : Bool). make l.left e l.right) h.2

  pub conjunction-same : (c : grammar.Conjunction) (ls : List Literal) → ConjunctionDenotes scope c ls → conjunction_item scope ls ≡ c
  conjunction-same grammar.always [] h = refl
  conjunction-same grammar.always (x ∷ xs) h = absurd h
  conjunction-same (grammar.all l ls) [] h = absurd h
  conjunction-same (grammar.all l ls) (x ∷ xs) h =
      ap (λ (y : grammar.Literal). grammar.all y (map (literal_item scope) xs)) (literal-same l x h.0)
      ∙ ap (grammar.all l) (same-map (LiteralDenotes scope) (literal_item scope) ls xs (λ k y z e. literal-same y z) h.1)

  pub disjuncts-same : (ds : List grammar.Conjunction) (xs : List (List Literal)) → OneByOne (ConjunctionDenotes scope) ds xs → map (conjunction_item scope) xs ≡ ds
  disjuncts-same ds xs h = same-map (ConjunctionDenotes scope) (conjunction_item scope) ds xs (λ k c x e. conjunction-same c x) h

  update_parts : (name : Text) (column : Option Text) (t : grammar.Term) (at : Target) (u : Term) → TargetDenotes scope name column at → TermDenotes scope t u
      → update_of scope at u ≡ record { name = name; column = column; term = t }
  update_parts name None t (target.Var v) u h k =
      let make : Text → grammar.Term → grammar.Update = λ n x. record { name = n; column = None; term = x } in
      ap (λ (n : Text). make n (term_item scope u)) (named scope.names.vars name v.n h) ∙ ap (make name) (term-same t u k)
  update_parts name None t (target.Cell m n) u h k = absurd h
  update_parts name (Some column) t (target.Var v) u h k = absurd h
  update_parts name (Some column) t (target.Cell m n) u h k =
      let make : Text → Text → grammar.Term → grammar.Update = λ r c x. record { name = r; column = Some c; term = x } in
      ap (λ (r : Text). make r (column_at scope.names scope.relations m n) (term_item scope u)) (named scope.rows name m h.0)
      ∙ ap (λ (c : Text). make name c (term_item scope u)) (column-same name column m n h)
      ∙ ap (make name column) (term-same t u k)

  pub update-same : (u : grammar.Update) (x : Update) → UpdateDenotes scope u x → update_item scope x ≡ u
  update-same u x h = update_parts u.name u.column u.term x.target x.term h.0 h.1

  pub assignment-same : (row : ℕ) (a : grammar.Assignment) (x : Assign) → AssignmentDenotes scope row a x → assignment_item scope row x ≡ a
  assignment-same row a x h =
      let make : Text → Text → grammar.Term → grammar.Assignment = λ r c t. record { row = r; column = c; term = t } in
      ap (λ (r : Text). make r (column_at scope.names scope.relations row x.column) (term_item scope x.term)) (named scope.rows a.row row h.0.0)
      ∙ ap (λ (c : Text). make a.row c (term_item scope x.term)) (column-same a.row a.column row x.column h.0)
      ∙ ap (make a.row a.column) (term-same a.term x.term h.1)
