-- Tokens whose words are a file have a placed file.
use Rattle.std.proofs.Common.{◌≡◌, ℕ, zero, suc, Bool, true, false, List, [], ◌∷◌, ◌++◌, Option, Some, None, filter, map, flat_map, option_map, refl, sym, ap, ◌∙◌, append-nil}
use Rattle.std.proofs.lemmas.List.Elements.{filter-append}
use Rattle.ras_lexer.specs.declared.fixed.Fixed.{Fixed}
use Rattle.ras_lexer.specs.declared.fixed.Fixed.TheVariants as sign
use Rattle.ras_lexer.specs.declared.token.Token.{Token}
use Rattle.ras_lexer.specs.declared.token.Word.{Word}
use Rattle.ras_lexer.specs.declared.token.Word.TheVariants as word
use Rattle.ras_syntax.specs.Grammar as grammar
use Rattle.ras_syntax.specs.Grammar.{Text, one, sort_words, function_words, totality_sign, constant_words, initial_words, variable_words, column_words, comma_words, relation_words, row_words, param_words, term_words, comparison_sign, literal_words, and_words, conjunction_words, or_words, guard_words, dotted_words, update_words, assignment_words, case_words, each_words, step_words, goal_words, file_words, IsFile}
use Rattle.ras_syntax.specs.Places.{words}
use Rattle.ras_names.specs.Placed as placed
use Rattle.ras_names.specs.Unplaced.{sort_of, function_of, constant_of, column_of, row_of, param_of, variable_of, relation_of, term_of, literal_of, conjunction_of, guard_of, update_of, assignment_of, case_of, each_of, step_of, goal_of, file_of}
use Rattle.ras_names.specs.PlacedTokens.{has_place, is_placed, of_name, sign_at, of_declared, of_function, of_initial, of_variable, of_relation, of_term, of_literal, of_conjunction, of_guard, of_column, of_update, of_assignment, of_case, of_each, of_step, of_goal, of_file, IsFileOf}

-- ---- words at places

-- the place of each word, by its number
abbrev Places : Type 0
Places = ℕ → ℕ

abbrev next : Places → Places
next p = λ n. p (suc n)

abbrev after : List Word → Places → Places
after [] p = p
after (w ∷ ws) p = after ws (next p)

abbrev tokens : List Word → Places → List Token
tokens [] p = []
tokens (w ∷ ws) p = record { at = p 0; word = w } ∷ tokens ws (next p)

abbrev only_placed : List Token → List Token
only_placed ts = filter (λ (t : Token). is_placed t.word) ts

-- the tokens at whose places a fault can stand
abbrev kept : List Word → Places → List Token
kept ws p = only_placed (tokens ws p)

abbrev places : List Token → Places
places [] n = 0
places (t ∷ ts) zero = t.at
places (t ∷ ts) (suc n) = places ts n

tokens-places : (ts : List Token) → tokens (words ts) (places ts) ≡ ts
tokens-places [] = refl
tokens-places (t ∷ ts) = ap (λ (us : List Token). t ∷ us) (tokens-places ts)

tokens_both : (a b : List Word) (p : Places) → tokens (a ++ b) p ≡ tokens a p ++ tokens b (after a p)
tokens_both [] b p = refl
tokens_both (w ∷ a) b p = ap (λ (us : List Token). record { at = p 0; word = w } ∷ us) (tokens_both a b (next p))

both : (a b : List Word) (p : Places) {x y : List Token} → kept a p ≡ x → kept b (after a p) ≡ y → kept (a ++ b) p ≡ x ++ y
both a b p e f =
    ap only_placed (tokens_both a b p) ∙ filter-append (λ (t : Token). is_placed t.word) (tokens a p) (tokens b (after a p)) ∙ (λ i. e i ++ f i)

-- a last sign at which no fault can stand
closed : (a : List Word) (f : Fixed) (p : Places) {x : List Token} → has_place f ≡ false → kept a p ≡ x → kept (a ++ one f) p ≡ x
closed a f p none e =
    let last : kept (one f) (after a p) ≡ [] = rw none refl in
    both a (one f) p e last ∙ append-nil _

-- how parts of a file have places: their words, what they are with places, and their placed tokens
record IsPlaced {A B : Type 0} (spelled : A → List Word) (placed_at : A → Places → B) (back : B → A) (of : B → List Token) : Type 0 where
  keeps : (x : A) (p : Places) → kept (spelled x) p ≡ of (placed_at x p)
  same : (x : A) (p : Places) → back (placed_at x p) ≡ x

abbrev each_at : {A B : Type 0} → (A → List Word) → (A → Places → B) → List A → Places → List B
each_at spelled placed_at [] p = []
each_at spelled placed_at (x ∷ xs) p = placed_at x p ∷ each_at spelled placed_at xs (after (spelled x) p)

module _ {A B : Type 0} (spelled : A → List Word) (placed_at : A → Places → B) (back : B → A) (of : B → List Token) (is : IsPlaced spelled placed_at back of) where
  each_keeps : (xs : List A) (p : Places) → kept (flat_map spelled xs) p ≡ flat_map of (each_at spelled placed_at xs p)
  each_keeps [] p = refl
  each_keeps (x ∷ xs) p = both (spelled x) (flat_map spelled xs) p (is.keeps x p) (each_keeps xs (after (spelled x) p))

  each_same : (xs : List A) (p : Places) → map back (each_at spelled placed_at xs p) ≡ xs
  each_same [] p = refl
  each_same (x ∷ xs) p = λ i. is.same x p i ∷ each_same xs (after (spelled x) p) i

-- ---- declarations

abbrev name_at : Text → ℕ → placed.Name
name_at text place = record { at = place; text = text }

abbrev sort_at : grammar.Sort → Places → placed.Name
sort_at s p = name_at s.name (p 1)

sort_placed : IsPlaced sort_words sort_at sort_of (λ n. of_name n ∷ [])
sort_placed = record { keeps = λ s p. refl; same = λ s p. refl }

abbrev function_at : grammar.Function → Places → placed.Function
function_at f p = record { total = f.total; name = name_at f.name (p 1); source = name_at f.source (p 3); target = name_at f.target (p 5) }

function_keeps : (total : Bool) (name source target : Text) (p : Places) → let f : grammar.Function = record { total = total; name = name; source = source; target = target } in
    kept (function_words f) p ≡ of_function (function_at f p)
function_keeps true name source target p = refl
function_keeps false name source target p = refl

function_placed : IsPlaced function_words function_at function_of of_function
function_placed = record { keeps = λ f p. function_keeps f.total f.name f.source f.target p; same = λ f p. refl }

-- NAME ":" NAME
abbrev declared_at : Text → Text → Places → placed.Declared
declared_at name of p = record { name = name_at name (p 0); of = name_at of (p 2) }

abbrev constant_at : grammar.Constant → Places → placed.Declared
constant_at c p = declared_at c.name c.sort (next p)

constant_placed : IsPlaced constant_words constant_at constant_of of_declared
constant_placed = record { keeps = λ c p. refl; same = λ c p. refl }

abbrev initial_at : Option Text → Places → Option placed.Initial
initial_at None p = None
initial_at (Some n) p = Some (record { at = p 0; constant = name_at n (p 1) })

abbrev variable_at : grammar.Variable → Places → placed.Variable
variable_at v p = record { name = name_at v.name (p 1); sort = name_at v.sort (p 3); initial = initial_at v.initial (λ n. p (suc (suc (suc (suc n))))) }

initial_keeps : (initial : Option Text) (p : Places) → kept (initial_words initial ++ one sign.Semicolon) p ≡ of_initial (initial_at initial p)
initial_keeps None p = refl
initial_keeps (Some n) p = refl

initial_same : (initial : Option Text) (p : Places) → option_map (λ (i : placed.Initial). i.constant.text) (initial_at initial p) ≡ initial
initial_same None p = refl
initial_same (Some n) p = refl

variable_placed : IsPlaced variable_words variable_at variable_of of_variable
variable_placed = record {
  keeps = λ v p. ap (λ (ts : List Token). of_name (name_at v.name (p 1)) ∷ of_name (name_at v.sort (p 3)) ∷ ts) (initial_keeps v.initial (λ n. p (suc (suc (suc (suc n))))));
  same = λ v p. ap (λ (i : Option Text). record { name = v.name; sort = v.sort; initial = i }) (initial_same v.initial (λ n. p (suc (suc (suc (suc n))))));
}

abbrev column_at : grammar.Column → Places → placed.Declared
column_at c p = declared_at c.name c.sort p

abbrev comma_at : grammar.Column → Places → placed.Declared
comma_at c p = column_at c (next p)

comma_placed : IsPlaced comma_words comma_at column_of of_declared
comma_placed = record { keeps = λ c p. refl; same = λ c p. refl }

-- the places behind the first three words
abbrev behind : Places → Places
behind p = λ n. p (suc (suc (suc n)))

abbrev relation_at : grammar.Relation → Places → placed.Relation
relation_at r p = record { name = name_at r.name (p 1); first = column_at r.first (behind p); others = each_at comma_words comma_at r.others (behind (behind p)) }

columns_keep : (cs : List grammar.Column) (p : Places) → kept (flat_map comma_words cs ++ (word.Fixed sign.CloseParen ∷ one sign.Semicolon)) p ≡ flat_map of_declared (each_at comma_words comma_at cs p)
columns_keep cs p = both (flat_map comma_words cs) (word.Fixed sign.CloseParen ∷ one sign.Semicolon) p (each_keeps comma_words comma_at column_of of_declared comma_placed cs p) refl ∙ append-nil _

relation_placed : IsPlaced relation_words relation_at relation_of of_relation
relation_placed = record {
  keeps = λ r p. ap (λ (ts : List Token). of_name (name_at r.name (p 1)) ∷ (of_declared (column_at r.first (behind p)) ++ ts)) (columns_keep r.others (behind (behind p)));
  same = λ r p. ap (λ (cs : List grammar.Column). record { name = r.name; first = r.first; others = cs }) (each_same comma_words comma_at column_of of_declared comma_placed r.others (behind (behind p)));
}

abbrev row_at : grammar.Row → Places → placed.Declared
row_at r p = declared_at r.name r.relation (next p)

row_placed : IsPlaced row_words row_at row_of of_declared
row_placed = record { keeps = λ r p. refl; same = λ r p. refl }

abbrev param_at : grammar.Param → Places → placed.Declared
param_at r p = declared_at r.name r.sort (next p)

param_placed : IsPlaced param_words param_at param_of of_declared
param_placed = record { keeps = λ r p. refl; same = λ r p. refl }

-- ---- terms and guards

abbrev calls_at : grammar.Term → Places → List placed.Name
calls_at (grammar.call f t) p = name_at f (p 0) ∷ calls_at t (next (next p))
calls_at (grammar.cell row column) p = []
calls_at (grammar.plain n) p = []
calls_at grammar.undef p = []

abbrev base_at : grammar.Term → Places → placed.Base
base_at (grammar.call f t) p = base_at t (next (next p))
base_at (grammar.cell row column) p = placed.cell (name_at row (p 0)) (name_at column (p 2))
base_at (grammar.plain n) p = placed.plain (name_at n (p 0))
base_at grammar.undef p = placed.undef (p 0)

abbrev term_at : grammar.Term → Places → placed.Term
term_at t p = record { functions = calls_at t p; base = base_at t p }

term_keeps : (t : grammar.Term) (p : Places) → kept (term_words t) p ≡ of_term (term_at t p)
term_keeps (grammar.call f t) p =
    ap (λ (ts : List Token). of_name (name_at f (p 0)) ∷ ts) (closed (term_words t) sign.CloseParen (next (next p)) refl (term_keeps t (next (next p))))
term_keeps (grammar.cell row column) p = refl
term_keeps (grammar.plain n) p = refl
term_keeps grammar.undef p = refl

term_same : (t : grammar.Term) (p : Places) → term_of (term_at t p) ≡ t
term_same (grammar.call f t) p = ap (grammar.call f) (term_same t (next (next p)))
term_same (grammar.cell row column) p = refl
term_same (grammar.plain n) p = refl
term_same grammar.undef p = refl

comparison_keeps : (equal : Bool) (ws : List Word) (p : Places) → kept (word.Fixed (comparison_sign equal) ∷ ws) p ≡ sign_at (p 0) (comparison_sign equal) ∷ kept ws (next p)
comparison_keeps true ws p = refl
comparison_keeps false ws p = refl

abbrev literal_at : grammar.Literal → Places → placed.Literal
literal_at l p =
    let q : Places = after (term_words l.left) p in
    record { left = term_at l.left p; at = q 0; equal = l.equal; right = term_at l.right (next q) }

literal_placed : IsPlaced literal_words literal_at literal_of of_literal
literal_placed = record {
  keeps = λ l p.
      let q : Places = after (term_words l.left) p in
      both (term_words l.left) (word.Fixed (comparison_sign l.equal) ∷ term_words l.right) p (term_keeps l.left p)
      (comparison_keeps l.equal (term_words l.right) q ∙ ap (λ (ts : List Token). sign_at (q 0) (comparison_sign l.equal) ∷ ts) (term_keeps l.right (next q)));
  same = λ l p i. record { left = term_same l.left p i; equal = l.equal; right = term_same l.right (next (after (term_words l.left) p)) i };
}

abbrev and_at : grammar.Literal → Places → placed.Literal
and_at l p = literal_at l (next p)

and_placed : IsPlaced and_words and_at literal_of of_literal
and_placed = record { keeps = λ l p. literal_placed.keeps l (next p); same = λ l p. literal_placed.same l (next p) }

abbrev conjunction_at : grammar.Conjunction → Places → placed.Conjunction
conjunction_at grammar.always p = placed.always (p 0)
conjunction_at (grammar.all l ls) p = placed.all (literal_at l p) (each_at and_words and_at ls (after (literal_words l) p))

conjunction_keeps : (c : grammar.Conjunction) (p : Places) → kept (conjunction_words c) p ≡ of_conjunction (conjunction_at c p)
conjunction_keeps grammar.always p = refl
conjunction_keeps (grammar.all l ls) p = both (literal_words l) (flat_map and_words ls) p (literal_placed.keeps l p) (each_keeps and_words and_at literal_of of_literal and_placed ls (after (literal_words l) p))

conjunction_same : (c : grammar.Conjunction) (p : Places) → conjunction_of (conjunction_at c p) ≡ c
conjunction_same grammar.always p = refl
conjunction_same (grammar.all l ls) p = λ i. grammar.all (literal_placed.same l p i) (each_same and_words and_at literal_of of_literal and_placed ls (after (literal_words l) p) i)

abbrev or_at : grammar.Conjunction → Places → placed.Conjunction
or_at c p = conjunction_at c (next p)

or_placed : IsPlaced or_words or_at conjunction_of of_conjunction
or_placed = record { keeps = λ c p. conjunction_keeps c (next p); same = λ c p. conjunction_same c (next p) }

abbrev guard_at : grammar.Guard → Places → placed.Guard
guard_at g p = record { first = conjunction_at g.first p; others = each_at or_words or_at g.others (after (conjunction_words g.first) p) }

guard_placed : IsPlaced guard_words guard_at guard_of of_guard
guard_placed = record {
  keeps = λ g p. both (conjunction_words g.first) (flat_map or_words g.others) p (conjunction_keeps g.first p) (each_keeps or_words or_at conjunction_of of_conjunction or_placed g.others (after (conjunction_words g.first) p));
  same = λ g p i. record { first = conjunction_same g.first p i; others = each_same or_words or_at conjunction_of of_conjunction or_placed g.others (after (conjunction_words g.first) p) i };
}

-- ---- updates and cases

-- a term and its semicolon
assigned_keeps : (t : grammar.Term) (p : Places) → kept (term_words t ++ one sign.Semicolon) p ≡ of_term (term_at t p)
assigned_keeps t p = closed (term_words t) sign.Semicolon p refl (term_keeps t p)

abbrev dotted_at : Option Text → Places → Option placed.Name
dotted_at None p = None
dotted_at (Some n) p = Some (name_at n (p 1))

dotted_keeps : (column : Option Text) (p : Places) → kept (dotted_words column) p ≡ of_column (dotted_at column p)
dotted_keeps None p = refl
dotted_keeps (Some n) p = refl

dotted_same : (column : Option Text) (p : Places) → option_map (λ (n : placed.Name). n.text) (dotted_at column p) ≡ column
dotted_same None p = refl
dotted_same (Some n) p = refl

abbrev update_at : grammar.Update → Places → placed.Update
update_at u p =
    let q : Places = after (dotted_words u.column) (next p) in
    record { name = name_at u.name (p 0); column = dotted_at u.column (next p); at = q 0; term = term_at u.term (next q) }

update_placed : IsPlaced update_words update_at update_of of_update
update_placed = record {
  keeps = λ u p.
      let q : Places = after (dotted_words u.column) (next p) in
      ap (λ (ts : List Token). of_name (name_at u.name (p 0)) ∷ ts)
      (both (dotted_words u.column) (word.Fixed sign.Assign ∷ (term_words u.term ++ one sign.Semicolon)) (next p) (dotted_keeps u.column (next p))
      (ap (λ (ts : List Token). sign_at (q 0) sign.Assign ∷ ts) (assigned_keeps u.term (next q))));
  same = λ u p i. record { name = u.name; column = dotted_same u.column (next p) i; term = term_same u.term (next (after (dotted_words u.column) (next p))) i };
}

abbrev assignment_at : grammar.Assignment → Places → placed.Assignment
assignment_at a p = record { row = name_at a.row (p 0); column = name_at a.column (p 2); at = p 3; term = term_at a.term (next (behind p)) }

assignment_placed : IsPlaced assignment_words assignment_at assignment_of of_assignment
assignment_placed = record {
  keeps = λ a p. ap (λ (ts : List Token). of_name (name_at a.row (p 0)) ∷ of_name (name_at a.column (p 2)) ∷ sign_at (p 3) sign.Assign ∷ ts) (assigned_keeps a.term (next (behind p)));
  same = λ a p i. record { row = a.row; column = a.column; term = term_same a.term (next (behind p)) i };
}

abbrev case_at : grammar.Case → Places → placed.Case
case_at c p =
    let q : Places = after (conjunction_words c.condition) (next p) in
    record { at = p 0; condition = conjunction_at c.condition (next p); assignments = each_at assignment_words assignment_at c.assignments (next q) }

case_placed : IsPlaced case_words case_at case_of of_case
case_placed = record {
  keeps = λ c p.
      let q : Places = after (conjunction_words c.condition) (next p) in
      ap (λ (ts : List Token). sign_at (p 0) sign.If ∷ ts)
      (both (conjunction_words c.condition) (word.Fixed sign.OpenBrace ∷ (flat_map assignment_words c.assignments ++ one sign.CloseBrace)) (next p) (conjunction_keeps c.condition (next p))
      (closed (flat_map assignment_words c.assignments) sign.CloseBrace (next q) refl (each_keeps assignment_words assignment_at assignment_of of_assignment assignment_placed c.assignments (next q))));
  same = λ c p i. record {
    condition = conjunction_same c.condition (next p) i;
    assignments = each_same assignment_words assignment_at assignment_of of_assignment assignment_placed c.assignments (next (after (conjunction_words c.condition) (next p))) i;
  };
}

abbrev each_case_at : grammar.Each → Places → placed.Each
each_case_at e p =
    let q : Places = next (next (behind p)) in
    record { row = name_at e.row (p 1); relation = name_at e.relation (p 3); first = case_at e.first q; others = each_at case_words case_at e.others (after (case_words e.first) q) }

each_placed : IsPlaced each_words each_case_at each_of of_each
each_placed = record {
  keeps = λ e p.
      let q : Places = next (next (behind p)) in
      ap (λ (ts : List Token). of_name (name_at e.row (p 1)) ∷ of_name (name_at e.relation (p 3)) ∷ ts)
      (both (case_words e.first) (flat_map case_words e.others ++ one sign.CloseBrace) q (case_placed.keeps e.first q)
      (closed (flat_map case_words e.others) sign.CloseBrace (after (case_words e.first) q) refl (each_keeps case_words case_at case_of of_case case_placed e.others (after (case_words e.first) q))));
  same = λ e p i.
      let q : Places = next (next (behind p)) in
      record { row = e.row; relation = e.relation; first = case_placed.same e.first q i; others = each_same case_words case_at case_of of_case case_placed e.others (after (case_words e.first) q) i };
}

-- ---- steps and unsafe items

abbrev rows_at : List grammar.Row → Places → List placed.Declared
rows_at rs p = each_at row_words row_at rs p

rows_keep : (rs : List grammar.Row) (p : Places) → kept (flat_map row_words rs) p ≡ flat_map of_declared (rows_at rs p)
rows_keep rs p = each_keeps row_words row_at row_of of_declared row_placed rs p

rows_same : (rs : List grammar.Row) (p : Places) → map row_of (rows_at rs p) ≡ rs
rows_same rs p = each_same row_words row_at row_of of_declared row_placed rs p

module _ (s : grammar.Step) (p : Places) where
  -- the words behind the semicolon of the guard, behind the data parameters, and behind the rows
  abbrev step_end : List Word
  step_end = flat_map update_words s.updates ++ (flat_map each_words s.eachs ++ one sign.CloseBrace)

  abbrev step_guard : List Word
  step_guard = word.Fixed sign.When ∷ (guard_words s.guard ++ (word.Fixed sign.Semicolon ∷ step_end))

  -- and their places
  abbrev at_params : Places
  at_params = after (flat_map row_words s.rows) (behind p)

  abbrev at_guard : Places
  at_guard = next (after (flat_map param_words s.params) at_params)

  abbrev at_updates : Places
  at_updates = next (after (guard_words s.guard) at_guard)

  abbrev at_eachs : Places
  at_eachs = after (flat_map update_words s.updates) at_updates

  abbrev step_at : placed.Step
  step_at = record {
    name = name_at s.name (p 1);
    rows = rows_at s.rows (behind p);
    params = each_at param_words param_at s.params at_params;
    guard = guard_at s.guard at_guard;
    updates = each_at update_words update_at s.updates at_updates;
    eachs = each_at each_words each_case_at s.eachs at_eachs;
  }

  step_keeps : kept (step_words s) p ≡ of_step step_at
  step_keeps = ap (λ (ts : List Token). of_name (name_at s.name (p 1)) ∷ ts)
      (both (flat_map row_words s.rows) (flat_map param_words s.params ++ step_guard) (behind p) (rows_keep s.rows (behind p))
      (both (flat_map param_words s.params) step_guard at_params (each_keeps param_words param_at param_of of_declared param_placed s.params at_params)
      (both (guard_words s.guard) (word.Fixed sign.Semicolon ∷ step_end) at_guard (guard_placed.keeps s.guard at_guard)
      (both (flat_map update_words s.updates) (flat_map each_words s.eachs ++ one sign.CloseBrace) at_updates (each_keeps update_words update_at update_of of_update update_placed s.updates at_updates)
      (closed (flat_map each_words s.eachs) sign.CloseBrace at_eachs refl (each_keeps each_words each_case_at each_of of_each each_placed s.eachs at_eachs))))))

  step_same : step_of step_at ≡ s
  step_same = λ i. record {
    name = s.name;
    rows = rows_same s.rows (behind p) i;
    params = each_same param_words param_at param_of of_declared param_placed s.params at_params i;
    guard = guard_placed.same s.guard at_guard i;
    updates = each_same update_words update_at update_of of_update update_placed s.updates at_updates i;
    eachs = each_same each_words each_case_at each_of of_each each_placed s.eachs at_eachs i;
  }

step_placed : IsPlaced step_words step_at step_of of_step
step_placed = record { keeps = step_keeps; same = step_same }

module _ (g : grammar.Goal) (p : Places) where
  abbrev at_goal_guard : Places
  at_goal_guard = next (after (flat_map row_words g.rows) (next (next p)))

  abbrev goal_at : placed.Goal
  goal_at = record { rows = rows_at g.rows (next (next p)); guard = guard_at g.guard at_goal_guard }

  goal_keeps : kept (goal_words g) p ≡ of_goal goal_at
  goal_keeps =
      both (flat_map row_words g.rows) (word.Fixed sign.When ∷ (guard_words g.guard ++ (word.Fixed sign.Semicolon ∷ one sign.CloseBrace))) (next (next p)) (rows_keep g.rows (next (next p)))
      (both (guard_words g.guard) (word.Fixed sign.Semicolon ∷ one sign.CloseBrace) at_goal_guard (guard_placed.keeps g.guard at_goal_guard) refl ∙ append-nil _)

  goal_same : goal_of goal_at ≡ g
  goal_same = λ i. record { rows = rows_same g.rows (next (next p)) i; guard = guard_placed.same g.guard at_goal_guard i }

goal_placed : IsPlaced goal_words goal_at goal_of of_goal
goal_placed = record { keeps = goal_keeps; same = goal_same }

-- ---- files

module _ (f : grammar.File) (p : Places) where
  -- the words behind the sorts, behind the functions, and so on
  abbrev behind_relations : List Word
  behind_relations = flat_map step_words f.steps ++ flat_map goal_words f.goals

  abbrev behind_variables : List Word
  behind_variables = flat_map relation_words f.relations ++ behind_relations

  abbrev behind_constants : List Word
  behind_constants = flat_map variable_words f.variables ++ behind_variables

  abbrev behind_functions : List Word
  behind_functions = flat_map constant_words f.constants ++ behind_constants

  -- and their places
  abbrev at_functions : Places
  at_functions = after (flat_map sort_words f.sorts) (behind p)

  abbrev at_constants : Places
  at_constants = after (flat_map function_words f.functions) at_functions

  abbrev at_variables : Places
  at_variables = after (flat_map constant_words f.constants) at_constants

  abbrev at_relations : Places
  at_relations = after (flat_map variable_words f.variables) at_variables

  abbrev at_steps : Places
  at_steps = after (flat_map relation_words f.relations) at_relations

  abbrev at_goals : Places
  at_goals = after (flat_map step_words f.steps) at_steps

  abbrev file_at : placed.File
  file_at = record {
    name = name_at f.name (p 1);
    sorts = each_at sort_words sort_at f.sorts (behind p);
    functions = each_at function_words function_at f.functions at_functions;
    constants = each_at constant_words constant_at f.constants at_constants;
    variables = each_at variable_words variable_at f.variables at_variables;
    relations = each_at relation_words relation_at f.relations at_relations;
    steps = each_at step_words step_at f.steps at_steps;
    goals = each_at goal_words goal_at f.goals at_goals;
  }

  sorts_keep : (ss : List grammar.Sort) (q : Places) → kept (flat_map sort_words ss) q ≡ map of_name (each_at sort_words sort_at ss q)
  sorts_keep [] q = refl
  sorts_keep (s ∷ ss) q = ap (λ (ts : List Token). of_name (sort_at s q) ∷ ts) (sorts_keep ss (behind q))

  file_keeps : kept (file_words f) p ≡ of_file file_at
  file_keeps = ap (λ (ts : List Token). of_name (name_at f.name (p 1)) ∷ ts)
      (both (flat_map sort_words f.sorts) (flat_map function_words f.functions ++ behind_functions) (behind p) (sorts_keep f.sorts (behind p))
      (both (flat_map function_words f.functions) behind_functions at_functions (each_keeps function_words function_at function_of of_function function_placed f.functions at_functions)
      (both (flat_map constant_words f.constants) behind_constants at_constants (each_keeps constant_words constant_at constant_of of_declared constant_placed f.constants at_constants)
      (both (flat_map variable_words f.variables) behind_variables at_variables (each_keeps variable_words variable_at variable_of of_variable variable_placed f.variables at_variables)
      (both (flat_map relation_words f.relations) behind_relations at_relations (each_keeps relation_words relation_at relation_of of_relation relation_placed f.relations at_relations)
      (both (flat_map step_words f.steps) (flat_map goal_words f.goals) at_steps (each_keeps step_words step_at step_of of_step step_placed f.steps at_steps)
      (each_keeps goal_words goal_at goal_of of_goal goal_placed f.goals at_goals)))))))

  file_same : file_of file_at ≡ f
  file_same = λ i. record {
    name = f.name;
    sorts = each_same sort_words sort_at sort_of (λ n. of_name n ∷ []) sort_placed f.sorts (behind p) i;
    functions = each_same function_words function_at function_of of_function function_placed f.functions at_functions i;
    constants = each_same constant_words constant_at constant_of of_declared constant_placed f.constants at_constants i;
    variables = each_same variable_words variable_at variable_of of_variable variable_placed f.variables at_variables i;
    relations = each_same relation_words relation_at relation_of of_relation relation_placed f.relations at_relations i;
    steps = each_same step_words step_at step_of of_step step_placed f.steps at_steps i;
    goals = each_same goal_words goal_at goal_of of_goal goal_placed f.goals at_goals i;
  }

pub file_is_placed : (ts : List Token) → IsFile (words ts) → (file : placed.File) × IsFileOf ts file
file_is_placed ts (f, e) =
    let p : Places = places ts in (
      file_at f p,
      record {
        spelled = e ∙ ap file_words (sym (file_same f p));
        places = ap only_placed (sym (tokens-places ts)) ∙ ap (λ (ws : List Word). kept ws p) e ∙ file_keeps f p;
      },
    )
