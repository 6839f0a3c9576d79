-- What is read is spelled.
use Rattle.std.proofs.Common.{◌≡◌, ℕ, suc, List, [], ◌∷◌, ◌++◌, length, Option, Some, None, Bool, true, false, cond, eqb, refl, sym, ap, ◌∙◌, append_assoc}
use Rattle.std.specs.List.{flat_map}
use Rattle.std.proofs.lemmas.Bool.{eqb-true}
use Rattle.std.proofs.lemmas.List.{append-nil}
use Rattle.ras_lexer.specs.declared.fixed.Fixed.{Fixed}
use Rattle.ras_lexer.specs.declared.fixed.Fixed.TheVariants as sign
use Rattle.ras_lexer.specs.declared.token.Word.{Word}
use Rattle.ras_lexer.specs.declared.token.Word.TheVariants as word
use Rattle.ras_syntax.specs.Grammar.{Term, call, cell, plain, undef, term_words, Literal, comparison_sign, Conjunction, always, all, and_words, conjunction_words, or_words, initial_words, dotted_words, Sort, sort_words, Function, totality_sign, function_words, Constant, constant_words, Variable, variable_words, Column, comma_words, Relation, relation_words, Row, row_words, Param, param_words, Update, update_words, Assignment, assignment_words, Case, case_words, Each, each_words, Step, step_words, Goal, goal_words, IsFile, one, named, Text}
use Rattle.ras_syntax.specs.Machine.{Sym, fixed, name, conjunction, comparison, term, tail, sorts, functions, constants, variables, initial, relations, columns, steps, rows, params, ands, ors, dotted, updates, eachs, cases, assignments, goals, fault, step, ended, then_on, same, is_name, base, index, start}

-- what may stand behind the name that a term begins with
pub data Behind : Type 0 where
  argument : Term → Behind
  column : Text → Behind
  nothing : Behind

abbrev pub behind_words : Behind → List Word
behind_words (argument t) = word.Fixed sign.OpenParen ∷ (term_words t ++ one sign.CloseParen)
behind_words (column c) = word.Fixed sign.Dot ∷ named c
behind_words nothing = []

-- the values of a symbol, and their words
abbrev pub Value : Sym → Type 0
Value (fixed f) = Unit {0}
Value name = Text
Value conjunction = Conjunction
Value comparison = Bool
Value term = Term
Value tail = Behind
Value sorts = List Sort
Value functions = List Function
Value constants = List Constant
Value variables = List Variable
Value initial = Option Text
Value relations = List Relation
Value columns = List Column
Value steps = List Step
Value rows = List Row
Value params = List Param
Value ands = List Literal
Value ors = List Conjunction
Value dotted = Option Text
Value updates = List Update
Value eachs = List Each
Value cases = List Case
Value assignments = List Assignment
Value goals = List Goal

abbrev pub spelled : (s : Sym) → Value s → List Word
spelled (fixed f) x = one f
spelled comparison b = one (comparison_sign b)
spelled name x = named x
spelled conjunction x = conjunction_words x
spelled term x = term_words x
spelled tail x = behind_words x
spelled sorts x = flat_map sort_words x
spelled functions x = flat_map function_words x
spelled constants x = flat_map constant_words x
spelled variables x = flat_map variable_words x
spelled initial x = initial_words x
spelled relations x = flat_map relation_words x
spelled columns x = flat_map comma_words x
spelled steps x = flat_map step_words x
spelled rows x = flat_map row_words x
spelled params x = flat_map param_words x
spelled ands x = flat_map and_words x
spelled ors x = flat_map or_words x
spelled dotted x = dotted_words x
spelled updates x = flat_map update_words x
spelled eachs x = flat_map each_words x
spelled cases x = flat_map case_words x
spelled assignments x = flat_map assignment_words x
spelled goals x = flat_map goal_words x

-- the words are those of some values of the stack's symbols
abbrev pub Spelled : List Sym → List Word → Type 0
Spelled [] ws = ws ≡ []
Spelled (s ∷ K) ws = (x : Value s) × (rest : List Word) × (ws ≡ spelled s x ++ rest) × Spelled K rest

-- ---- signs are known by their numbers

abbrev back : ℕ → Fixed
back n =
    cond (eqb n 0) sign.System (
    cond (eqb n 1) sign.Sort (
    cond (eqb n 2) sign.Total (
    cond (eqb n 3) sign.Nullable (
    cond (eqb n 4) sign.Const (
    cond (eqb n 5) sign.Var (
    cond (eqb n 6) sign.Relation (
    cond (eqb n 7) sign.Step (
    cond (eqb n 8) sign.Row (
    cond (eqb n 9) sign.Param (
    cond (eqb n 10) sign.When (
    cond (eqb n 11) sign.Or (
    cond (eqb n 12) sign.And (
    cond (eqb n 13) sign.True (
    cond (eqb n 14) sign.Undef (
    cond (eqb n 15) sign.Each (
    cond (eqb n 16) sign.If (
    cond (eqb n 17) sign.Unsafe (
    cond (eqb n 18) sign.OpenBrace (
    cond (eqb n 19) sign.CloseBrace (
    cond (eqb n 20) sign.OpenParen (
    cond (eqb n 21) sign.CloseParen (
    cond (eqb n 22) sign.Semicolon (
    cond (eqb n 23) sign.Colon (
    cond (eqb n 24) sign.Comma (
    cond (eqb n 25) sign.Dot (
    cond (eqb n 26) sign.Equal (
    cond (eqb n 27) sign.NotEqual (
    cond (eqb n 28) sign.Assign (
    sign.Arrow)))))))))))))))))))))))))))))

back_index : (f : Fixed) → back (index f) ≡ f
back_index sign.System = refl
back_index sign.Sort = refl
back_index sign.Total = refl
back_index sign.Nullable = refl
back_index sign.Const = refl
back_index sign.Var = refl
back_index sign.Relation = refl
back_index sign.Step = refl
back_index sign.Row = refl
back_index sign.Param = refl
back_index sign.When = refl
back_index sign.Or = refl
back_index sign.And = refl
back_index sign.True = refl
back_index sign.Undef = refl
back_index sign.Each = refl
back_index sign.If = refl
back_index sign.Unsafe = refl
back_index sign.OpenBrace = refl
back_index sign.CloseBrace = refl
back_index sign.OpenParen = refl
back_index sign.CloseParen = refl
back_index sign.Semicolon = refl
back_index sign.Colon = refl
back_index sign.Comma = refl
back_index sign.Dot = refl
back_index sign.Equal = refl
back_index sign.NotEqual = refl
back_index sign.Assign = refl
back_index sign.Arrow = refl

same_is : (f : Fixed) (w : Word) → same f w ≡ true → w ≡ word.Fixed f
same_is f (word.Name n) e = absurd cc
same_is f (word.Fixed g) e =
    let numbers : index g ≡ index f = eqb-true (index g) (index f) e in
    ap (λ (h : Fixed). word.Fixed h) (sym (back_index g) ∙ ap back numbers ∙ back_index f)

is_name_is : (w : Word) → is_name w ≡ true → (n : List ℕ) × (w ≡ word.Name n)
is_name_is (word.Name n) e = (n, refl)
is_name_is (word.Fixed g) e = absurd cc

-- ---- one word

split : (b : Bool) (x y : Option (List Sym)) (n : ℕ) (f : List Sym → Option ℕ) (P : Type 0)
    → (b ≡ true → then_on x n f ≡ None → P) → (b ≡ false → then_on y n f ≡ None → P) → then_on (cond b x y) n f ≡ None → P
split true x y n f P p q e = p refl e
split false x y n f P p q e = q refl e

no_none : (n : ℕ) (P : Type 0) → ◌≡◌ {A = Option ℕ} (Some n) None → P
no_none n P e = absurd cc

fixed_more : (f : Fixed) (K : List Sym) (w : Word) (ws : List Word) → w ≡ word.Fixed f → Spelled K ws → Spelled (fixed f ∷ K) (w ∷ ws)
fixed_more f K w ws e h = (tt, ws, ap (λ (v : Word). v ∷ ws) e, h)

sorts_more : (K : List Sym) (w : Word) (ws : List Word) → w ≡ word.Fixed sign.Sort → Spelled (name ∷ fixed sign.Semicolon ∷ sorts ∷ K) ws → Spelled (sorts ∷ K) (w ∷ ws)
sorts_more K w ws e (x0, w1, e1, (_, w2, e2, (xs, w3, e3, h))) =
    (record { name = x0 } ∷ xs, w3, rw (e, e1, e2, e3) (simp append_assoc), h)

functions_more : (b : Bool) (K : List Sym) (w : Word) (ws : List Word) → w ≡ word.Fixed (totality_sign b) → Spelled (name ∷ fixed sign.Colon ∷ name ∷ fixed sign.Arrow ∷ name ∷ fixed sign.Semicolon ∷ functions ∷ K) ws → Spelled (functions ∷ K) (w ∷ ws)
functions_more b K w ws e (x0, w1, e1, (_, w2, e2, (x1, w3, e3, (_, w4, e4, (x2, w5, e5, (_, w6, e6, (xs, w7, e7, h))))))) =
    (record { total = b; name = x0; source = x1; target = x2 } ∷ xs, w7, rw (e, e1, e2, e3, e4, e5, e6, e7) (simp append_assoc), h)

constants_more : (K : List Sym) (w : Word) (ws : List Word) → w ≡ word.Fixed sign.Const → Spelled (name ∷ fixed sign.Colon ∷ name ∷ fixed sign.Semicolon ∷ constants ∷ K) ws → Spelled (constants ∷ K) (w ∷ ws)
constants_more K w ws e (x0, w1, e1, (_, w2, e2, (x1, w3, e3, (_, w4, e4, (xs, w5, e5, h))))) =
    (record { name = x0; sort = x1 } ∷ xs, w5, rw (e, e1, e2, e3, e4, e5) (simp append_assoc), h)

variables_more : (K : List Sym) (w : Word) (ws : List Word) → w ≡ word.Fixed sign.Var → Spelled (name ∷ fixed sign.Colon ∷ name ∷ initial ∷ fixed sign.Semicolon ∷ variables ∷ K) ws → Spelled (variables ∷ K) (w ∷ ws)
variables_more K w ws e (x0, w1, e1, (_, w2, e2, (x1, w3, e3, (x2, w4, e4, (_, w5, e5, (xs, w6, e6, h)))))) =
    (record { name = x0; sort = x1; initial = x2 } ∷ xs, w6, rw (e, e1, e2, e3, e4, e5, e6) (simp append_assoc), h)

initial_more : (K : List Sym) (w : Word) (ws : List Word) → w ≡ word.Fixed sign.Equal → Spelled (name ∷ K) ws → Spelled (initial ∷ K) (w ∷ ws)
initial_more K w ws e (x0, w1, e1, h) =
    (Some x0, w1, rw (e, e1) refl, h)

relations_more : (K : List Sym) (w : Word) (ws : List Word) → w ≡ word.Fixed sign.Relation → Spelled (name ∷ fixed sign.OpenParen ∷ name ∷ fixed sign.Colon ∷ name ∷ columns ∷ fixed sign.CloseParen ∷ fixed sign.Semicolon ∷ relations ∷ K) ws → Spelled (relations ∷ K) (w ∷ ws)
relations_more K w ws e (x0, w1, e1, (_, w2, e2, (x1, w3, e3, (_, w4, e4, (x2, w5, e5, (x3, w6, e6, (_, w7, e7, (_, w8, e8, (xs, w9, e9, h))))))))) =
    (record { name = x0; first = record { name = x1; sort = x2 }; others = x3 } ∷ xs, w9, rw (e, e1, e2, e3, e4, e5, e6, e7, e8, e9) (simp append_assoc), h)

columns_more : (K : List Sym) (w : Word) (ws : List Word) → w ≡ word.Fixed sign.Comma → Spelled (name ∷ fixed sign.Colon ∷ name ∷ columns ∷ K) ws → Spelled (columns ∷ K) (w ∷ ws)
columns_more K w ws e (x0, w1, e1, (_, w2, e2, (x1, w3, e3, (xs, w4, e4, h)))) =
    (record { name = x0; sort = x1 } ∷ xs, w4, rw (e, e1, e2, e3, e4) (simp append_assoc), h)

steps_more : (K : List Sym) (w : Word) (ws : List Word) → w ≡ word.Fixed sign.Step → Spelled (name ∷ fixed sign.OpenBrace ∷ rows ∷ params ∷ fixed sign.When ∷ conjunction ∷ ors ∷ fixed sign.Semicolon ∷ updates ∷ eachs ∷ fixed sign.CloseBrace ∷ steps ∷ K) ws → Spelled (steps ∷ K) (w ∷ ws)
steps_more K w ws e (x0, w1, e1, (_, w2, e2, (x1, w3, e3, (x2, w4, e4, (_, w5, e5, (x3, w6, e6, (x4, w7, e7, (_, w8, e8, (x5, w9, e9, (x6, w10, e10, (_, w11, e11, (xs, w12, e12, h)))))))))))) =
    (record { name = x0; rows = x1; params = x2; guard = record { first = x3; others = x4 }; updates = x5; eachs = x6 } ∷ xs, w12, rw (e, e1, e2, e3, e4, e5, e6, e7, e8, e9, e10, e11, e12) (simp append_assoc), h)

rows_more : (K : List Sym) (w : Word) (ws : List Word) → w ≡ word.Fixed sign.Row → Spelled (name ∷ fixed sign.Colon ∷ name ∷ fixed sign.Semicolon ∷ rows ∷ K) ws → Spelled (rows ∷ K) (w ∷ ws)
rows_more K w ws e (x0, w1, e1, (_, w2, e2, (x1, w3, e3, (_, w4, e4, (xs, w5, e5, h))))) =
    (record { name = x0; relation = x1 } ∷ xs, w5, rw (e, e1, e2, e3, e4, e5) (simp append_assoc), h)

params_more : (K : List Sym) (w : Word) (ws : List Word) → w ≡ word.Fixed sign.Param → Spelled (name ∷ fixed sign.Colon ∷ name ∷ fixed sign.Semicolon ∷ params ∷ K) ws → Spelled (params ∷ K) (w ∷ ws)
params_more K w ws e (x0, w1, e1, (_, w2, e2, (x1, w3, e3, (_, w4, e4, (xs, w5, e5, h))))) =
    (record { name = x0; sort = x1 } ∷ xs, w5, rw (e, e1, e2, e3, e4, e5) (simp append_assoc), h)

ands_more : (K : List Sym) (w : Word) (ws : List Word) → w ≡ word.Fixed sign.And → Spelled (term ∷ comparison ∷ term ∷ ands ∷ K) ws → Spelled (ands ∷ K) (w ∷ ws)
ands_more K w ws e (x0, w1, e1, (x1, w2, e2, (x2, w3, e3, (xs, w4, e4, h)))) =
    (record { left = x0; equal = x1; right = x2 } ∷ xs, w4, rw (e, e1, e2, e3, e4) (simp append_assoc), h)

ors_more : (K : List Sym) (w : Word) (ws : List Word) → w ≡ word.Fixed sign.Or → Spelled (conjunction ∷ ors ∷ K) ws → Spelled (ors ∷ K) (w ∷ ws)
ors_more K w ws e (x0, w1, e1, (xs, w2, e2, h)) =
    (x0 ∷ xs, w2, rw (e, e1, e2) (simp append_assoc), h)

dotted_more : (K : List Sym) (w : Word) (ws : List Word) → w ≡ word.Fixed sign.Dot → Spelled (name ∷ K) ws → Spelled (dotted ∷ K) (w ∷ ws)
dotted_more K w ws e (x0, w1, e1, h) =
    (Some x0, w1, rw (e, e1) refl, h)

updates_more : (K : List Sym) (w : Word) (ws : List Word) → (n : Text) × (w ≡ word.Name n) → Spelled (dotted ∷ fixed sign.Assign ∷ term ∷ fixed sign.Semicolon ∷ updates ∷ K) ws → Spelled (updates ∷ K) (w ∷ ws)
updates_more K w ws (n, e) (x0, w1, e1, (_, w2, e2, (x1, w3, e3, (_, w4, e4, (xs, w5, e5, h))))) =
    (record { name = n; column = x0; term = x1 } ∷ xs, w5, rw (e, e1, e2, e3, e4, e5) (simp append_assoc), h)

eachs_more : (K : List Sym) (w : Word) (ws : List Word) → w ≡ word.Fixed sign.Each → Spelled (name ∷ fixed sign.Colon ∷ name ∷ fixed sign.OpenBrace ∷ fixed sign.If ∷ conjunction ∷ fixed sign.OpenBrace ∷ assignments ∷ fixed sign.CloseBrace ∷ cases ∷ fixed sign.CloseBrace ∷ eachs ∷ K) ws → Spelled (eachs ∷ K) (w ∷ ws)
eachs_more K w ws e (x0, w1, e1, (_, w2, e2, (x1, w3, e3, (_, w4, e4, (_, w5, e5, (x2, w6, e6, (_, w7, e7, (x3, w8, e8, (_, w9, e9, (x4, w10, e10, (_, w11, e11, (xs, w12, e12, h)))))))))))) =
    (record { row = x0; relation = x1; first = record { condition = x2; assignments = x3 }; others = x4 } ∷ xs, w12, rw (e, e1, e2, e3, e4, e5, e6, e7, e8, e9, e10, e11, e12) (simp append_assoc), h)

cases_more : (K : List Sym) (w : Word) (ws : List Word) → w ≡ word.Fixed sign.If → Spelled (conjunction ∷ fixed sign.OpenBrace ∷ assignments ∷ fixed sign.CloseBrace ∷ cases ∷ K) ws → Spelled (cases ∷ K) (w ∷ ws)
cases_more K w ws e (x0, w1, e1, (_, w2, e2, (x1, w3, e3, (_, w4, e4, (xs, w5, e5, h))))) =
    (record { condition = x0; assignments = x1 } ∷ xs, w5, rw (e, e1, e2, e3, e4, e5) (simp append_assoc), h)

assignments_more : (K : List Sym) (w : Word) (ws : List Word) → (n : Text) × (w ≡ word.Name n) → Spelled (fixed sign.Dot ∷ name ∷ fixed sign.Assign ∷ term ∷ fixed sign.Semicolon ∷ assignments ∷ K) ws → Spelled (assignments ∷ K) (w ∷ ws)
assignments_more K w ws (n, e) (_, w1, e1, (x0, w2, e2, (_, w3, e3, (x1, w4, e4, (_, w5, e5, (xs, w6, e6, h)))))) =
    (record { row = n; column = x0; term = x1 } ∷ xs, w6, rw (e, e1, e2, e3, e4, e5, e6) (simp append_assoc), h)

goals_more : (K : List Sym) (w : Word) (ws : List Word) → w ≡ word.Fixed sign.Unsafe → Spelled (fixed sign.OpenBrace ∷ rows ∷ fixed sign.When ∷ conjunction ∷ ors ∷ fixed sign.Semicolon ∷ fixed sign.CloseBrace ∷ goals ∷ K) ws → Spelled (goals ∷ K) (w ∷ ws)
goals_more K w ws e (_, w1, e1, (x0, w2, e2, (_, w3, e3, (x1, w4, e4, (x2, w5, e5, (_, w6, e6, (_, w7, e7, (xs, w8, e8, h)))))))) =
    (record { rows = x0; guard = record { first = x1; others = x2 } } ∷ xs, w8, rw (e, e1, e2, e3, e4, e5, e6, e7, e8) (simp append_assoc), h)

-- the literals of a conjunction
conjunction_from_literals : (K : List Sym) (ws : List Word) → Spelled (term ∷ comparison ∷ term ∷ ands ∷ K) ws → Spelled (conjunction ∷ K) ws
conjunction_from_literals K ws (l, w1, e1, (b, w2, e2, (r, w3, e3, (ls, w4, e4, h)))) =
    (all (record { left = l; equal = b; right = r }) ls, w4, rw (e1, e2, e3, e4) (simp append_assoc), h)

conjunction_true : (K : List Sym) (w : Word) (ws : List Word) → w ≡ word.Fixed sign.True → Spelled K ws → Spelled (conjunction ∷ K) (w ∷ ws)
conjunction_true K w ws e h = (always, ws, ap (λ (v : Word). v ∷ ws) e, h)

tail_open : (K : List Sym) (w : Word) (ws : List Word) → w ≡ word.Fixed sign.OpenParen → Spelled (term ∷ fixed sign.CloseParen ∷ K) ws → Spelled (tail ∷ K) (w ∷ ws)
tail_open K w ws e (t, w1, e1, (_, w2, e2, h)) = (argument t, w2, rw (e, e1, e2) (simp append_assoc), h)

tail_dot : (K : List Sym) (w : Word) (ws : List Word) → w ≡ word.Fixed sign.Dot → Spelled (name ∷ K) ws → Spelled (tail ∷ K) (w ∷ ws)
tail_dot K w ws e (n, w1, e1, h) = (column n, w1, rw (e, e1) refl, h)

term_named : (K : List Sym) (w : Word) (ws : List Word) → (n : Text) × (w ≡ word.Name n) → Spelled (tail ∷ K) ws → Spelled (term ∷ K) (w ∷ ws)
term_named K w ws (n, e) (argument t, w1, e1, h) = (call n t, w1, rw (e, e1) refl, h)
term_named K w ws (n, e) (column c, w1, e1, h) = (cell n c, w1, rw (e, e1) refl, h)
term_named K w ws (n, e) (nothing, w1, e1, h) = (plain n, w1, rw (e, e1) refl, h)

name_more : (K : List Sym) (w : Word) (ws : List Word) → (n : Text) × (w ≡ word.Name n) → Spelled K ws → Spelled (name ∷ K) (w ∷ ws)
name_more K w ws (n, e) h = (n, ws, ap (λ (v : Word). v ∷ ws) e, h)

comparison_more : (b : Bool) (K : List Sym) (w : Word) (ws : List Word) → w ≡ word.Fixed (comparison_sign b) → Spelled K ws → Spelled (comparison ∷ K) (w ∷ ws)
comparison_more b K w ws e h = (b, ws, ap (λ (v : Word). v ∷ ws) e, h)

from_start : (ws : List Word) → Spelled start ws → IsFile ws
from_start ws (_, w1, e1, (x0, w2, e2, (_, w3, e3, (x1, w4, e4, (x2, w5, e5, (x3, w6, e6, (x4, w7, e7, (x5, w8, e8, (x6, w9, e9, (x7, w10, e10, end)))))))))) =
    let behind : List Word = flat_map goal_words x7 in (
      record { name = x0; sorts = x1; functions = x2; constants = x3; variables = x4; relations = x5; steps = x6; goals = x7 },
      rw (e1, e2, e3, e4, e5, e6, e7, e8, e9, e10, end) (rw (append-nil (flat_map goal_words x7)) refl),
    )

abbrev After : List Sym → Word → List Word → Option (List Sym) → Type 0
After K w ws o = then_on o (suc (length ws)) (λ next. fault next ws) ≡ None → Spelled K (w ∷ ws)

term_word : (K : List Sym) (w : Word) (ws : List Word) → ((J : List Sym) → fault J ws ≡ None → Spelled J ws) → After (term ∷ K) w ws (base K w)
term_word K w ws on e =
    split (is_name w) (Some (tail ∷ K)) (cond (same sign.Undef w) (Some K) None) (suc (length ws)) (λ next. fault next ws) (Spelled (term ∷ K) (w ∷ ws))
    (λ b i. term_named K w ws (is_name_is w b) (on (tail ∷ K) i))
    (λ b i. split (same sign.Undef w) (Some K) None (suc (length ws)) (λ next. fault next ws) (Spelled (term ∷ K) (w ∷ ws))
    (λ c j. (undef, ws, ap (λ (v : Word). v ∷ ws) (same_is sign.Undef w c), on K j))
    (λ c j. no_none (suc (length ws)) _ j) i)
    e

sound_word : (K : List Sym) (w : Word) (ws : List Word) → ((J : List Sym) → fault J ws ≡ None → Spelled J ws) → After K w ws (step K w)
sound_word [] w ws on e = no_none (suc (length ws)) _ e
sound_word (fixed f ∷ K) w ws on e =
    split (same f w) (Some K) (None) (suc (length ws)) (λ next. fault next ws) (Spelled (fixed f ∷ K) (w ∷ ws))
    (λ b i. fixed_more f K w ws (same_is f w b) (on K i))
    (λ b i. no_none (suc (length ws)) _ i)
    e
sound_word (name ∷ K) w ws on e =
    split (is_name w) (Some K) (None) (suc (length ws)) (λ next. fault next ws) (Spelled (name ∷ K) (w ∷ ws))
    (λ b i. name_more K w ws (is_name_is w b) (on K i))
    (λ b i. no_none (suc (length ws)) _ i)
    e
sound_word (sorts ∷ K) w ws on e =
    split (same sign.Sort w) (Some (name ∷ fixed sign.Semicolon ∷ sorts ∷ K)) (step K w) (suc (length ws)) (λ next. fault next ws) (Spelled (sorts ∷ K) (w ∷ ws))
    (λ b i. sorts_more K w ws (same_is sign.Sort w b) (on (name ∷ fixed sign.Semicolon ∷ sorts ∷ K) i))
    (λ b i. ([], w ∷ ws, refl, sound_word K w ws on i))
    e
sound_word (functions ∷ K) w ws on e =
    split (same sign.Total w) (Some (name ∷ fixed sign.Colon ∷ name ∷ fixed sign.Arrow ∷ name ∷ fixed sign.Semicolon ∷ functions ∷ K)) (cond (same sign.Nullable w) (Some (name ∷ fixed sign.Colon ∷ name ∷ fixed sign.Arrow ∷ name ∷ fixed sign.Semicolon ∷ functions ∷ K)) (step K w)) (suc (length ws)) (λ next. fault next ws) (Spelled (functions ∷ K) (w ∷ ws))
    (λ b i. functions_more true K w ws (same_is sign.Total w b) (on (name ∷ fixed sign.Colon ∷ name ∷ fixed sign.Arrow ∷ name ∷ fixed sign.Semicolon ∷ functions ∷ K) i))
    (λ b i. split (same sign.Nullable w) (Some (name ∷ fixed sign.Colon ∷ name ∷ fixed sign.Arrow ∷ name ∷ fixed sign.Semicolon ∷ functions ∷ K)) (step K w) (suc (length ws)) (λ next. fault next ws) (Spelled (functions ∷ K) (w ∷ ws))
    (λ b i. functions_more false K w ws (same_is sign.Nullable w b) (on (name ∷ fixed sign.Colon ∷ name ∷ fixed sign.Arrow ∷ name ∷ fixed sign.Semicolon ∷ functions ∷ K) i))
    (λ b i. ([], w ∷ ws, refl, sound_word K w ws on i))
    i)
    e
sound_word (constants ∷ K) w ws on e =
    split (same sign.Const w) (Some (name ∷ fixed sign.Colon ∷ name ∷ fixed sign.Semicolon ∷ constants ∷ K)) (step K w) (suc (length ws)) (λ next. fault next ws) (Spelled (constants ∷ K) (w ∷ ws))
    (λ b i. constants_more K w ws (same_is sign.Const w b) (on (name ∷ fixed sign.Colon ∷ name ∷ fixed sign.Semicolon ∷ constants ∷ K) i))
    (λ b i. ([], w ∷ ws, refl, sound_word K w ws on i))
    e
sound_word (variables ∷ K) w ws on e =
    split (same sign.Var w) (Some (name ∷ fixed sign.Colon ∷ name ∷ initial ∷ fixed sign.Semicolon ∷ variables ∷ K)) (step K w) (suc (length ws)) (λ next. fault next ws) (Spelled (variables ∷ K) (w ∷ ws))
    (λ b i. variables_more K w ws (same_is sign.Var w b) (on (name ∷ fixed sign.Colon ∷ name ∷ initial ∷ fixed sign.Semicolon ∷ variables ∷ K) i))
    (λ b i. ([], w ∷ ws, refl, sound_word K w ws on i))
    e
sound_word (initial ∷ K) w ws on e =
    split (same sign.Equal w) (Some (name ∷ K)) (step K w) (suc (length ws)) (λ next. fault next ws) (Spelled (initial ∷ K) (w ∷ ws))
    (λ b i. initial_more K w ws (same_is sign.Equal w b) (on (name ∷ K) i))
    (λ b i. (None, w ∷ ws, refl, sound_word K w ws on i))
    e
sound_word (relations ∷ K) w ws on e =
    split (same sign.Relation w) (Some (name ∷ fixed sign.OpenParen ∷ name ∷ fixed sign.Colon ∷ name ∷ columns ∷ fixed sign.CloseParen ∷ fixed sign.Semicolon ∷ relations ∷ K)) (step K w) (suc (length ws)) (λ next. fault next ws) (Spelled (relations ∷ K) (w ∷ ws))
    (λ b i. relations_more K w ws (same_is sign.Relation w b) (on (name ∷ fixed sign.OpenParen ∷ name ∷ fixed sign.Colon ∷ name ∷ columns ∷ fixed sign.CloseParen ∷ fixed sign.Semicolon ∷ relations ∷ K) i))
    (λ b i. ([], w ∷ ws, refl, sound_word K w ws on i))
    e
sound_word (columns ∷ K) w ws on e =
    split (same sign.Comma w) (Some (name ∷ fixed sign.Colon ∷ name ∷ columns ∷ K)) (step K w) (suc (length ws)) (λ next. fault next ws) (Spelled (columns ∷ K) (w ∷ ws))
    (λ b i. columns_more K w ws (same_is sign.Comma w b) (on (name ∷ fixed sign.Colon ∷ name ∷ columns ∷ K) i))
    (λ b i. ([], w ∷ ws, refl, sound_word K w ws on i))
    e
sound_word (steps ∷ K) w ws on e =
    split (same sign.Step w) (Some (name ∷ fixed sign.OpenBrace ∷ rows ∷ params ∷ fixed sign.When ∷ conjunction ∷ ors ∷ fixed sign.Semicolon ∷ updates ∷ eachs ∷ fixed sign.CloseBrace ∷ steps ∷ K)) (step K w) (suc (length ws)) (λ next. fault next ws) (Spelled (steps ∷ K) (w ∷ ws))
    (λ b i. steps_more K w ws (same_is sign.Step w b) (on (name ∷ fixed sign.OpenBrace ∷ rows ∷ params ∷ fixed sign.When ∷ conjunction ∷ ors ∷ fixed sign.Semicolon ∷ updates ∷ eachs ∷ fixed sign.CloseBrace ∷ steps ∷ K) i))
    (λ b i. ([], w ∷ ws, refl, sound_word K w ws on i))
    e
sound_word (rows ∷ K) w ws on e =
    split (same sign.Row w) (Some (name ∷ fixed sign.Colon ∷ name ∷ fixed sign.Semicolon ∷ rows ∷ K)) (step K w) (suc (length ws)) (λ next. fault next ws) (Spelled (rows ∷ K) (w ∷ ws))
    (λ b i. rows_more K w ws (same_is sign.Row w b) (on (name ∷ fixed sign.Colon ∷ name ∷ fixed sign.Semicolon ∷ rows ∷ K) i))
    (λ b i. ([], w ∷ ws, refl, sound_word K w ws on i))
    e
sound_word (params ∷ K) w ws on e =
    split (same sign.Param w) (Some (name ∷ fixed sign.Colon ∷ name ∷ fixed sign.Semicolon ∷ params ∷ K)) (step K w) (suc (length ws)) (λ next. fault next ws) (Spelled (params ∷ K) (w ∷ ws))
    (λ b i. params_more K w ws (same_is sign.Param w b) (on (name ∷ fixed sign.Colon ∷ name ∷ fixed sign.Semicolon ∷ params ∷ K) i))
    (λ b i. ([], w ∷ ws, refl, sound_word K w ws on i))
    e
sound_word (ands ∷ K) w ws on e =
    split (same sign.And w) (Some (term ∷ comparison ∷ term ∷ ands ∷ K)) (step K w) (suc (length ws)) (λ next. fault next ws) (Spelled (ands ∷ K) (w ∷ ws))
    (λ b i. ands_more K w ws (same_is sign.And w b) (on (term ∷ comparison ∷ term ∷ ands ∷ K) i))
    (λ b i. ([], w ∷ ws, refl, sound_word K w ws on i))
    e
sound_word (ors ∷ K) w ws on e =
    split (same sign.Or w) (Some (conjunction ∷ ors ∷ K)) (step K w) (suc (length ws)) (λ next. fault next ws) (Spelled (ors ∷ K) (w ∷ ws))
    (λ b i. ors_more K w ws (same_is sign.Or w b) (on (conjunction ∷ ors ∷ K) i))
    (λ b i. ([], w ∷ ws, refl, sound_word K w ws on i))
    e
sound_word (dotted ∷ K) w ws on e =
    split (same sign.Dot w) (Some (name ∷ K)) (step K w) (suc (length ws)) (λ next. fault next ws) (Spelled (dotted ∷ K) (w ∷ ws))
    (λ b i. dotted_more K w ws (same_is sign.Dot w b) (on (name ∷ K) i))
    (λ b i. (None, w ∷ ws, refl, sound_word K w ws on i))
    e
sound_word (updates ∷ K) w ws on e =
    split (is_name w) (Some (dotted ∷ fixed sign.Assign ∷ term ∷ fixed sign.Semicolon ∷ updates ∷ K)) (step K w) (suc (length ws)) (λ next. fault next ws) (Spelled (updates ∷ K) (w ∷ ws))
    (λ b i. updates_more K w ws (is_name_is w b) (on (dotted ∷ fixed sign.Assign ∷ term ∷ fixed sign.Semicolon ∷ updates ∷ K) i))
    (λ b i. ([], w ∷ ws, refl, sound_word K w ws on i))
    e
sound_word (eachs ∷ K) w ws on e =
    split (same sign.Each w) (Some (name ∷ fixed sign.Colon ∷ name ∷ fixed sign.OpenBrace ∷ fixed sign.If ∷ conjunction ∷ fixed sign.OpenBrace ∷ assignments ∷ fixed sign.CloseBrace ∷ cases ∷ fixed sign.CloseBrace ∷ eachs ∷ K)) (step K w) (suc (length ws)) (λ next. fault next ws) (Spelled (eachs ∷ K) (w ∷ ws))
    (λ b i. eachs_more K w ws (same_is sign.Each w b) (on (name ∷ fixed sign.Colon ∷ name ∷ fixed sign.OpenBrace ∷ fixed sign.If ∷ conjunction ∷ fixed sign.OpenBrace ∷ assignments ∷ fixed sign.CloseBrace ∷ cases ∷ fixed sign.CloseBrace ∷ eachs ∷ K) i))
    (λ b i. ([], w ∷ ws, refl, sound_word K w ws on i))
    e
sound_word (cases ∷ K) w ws on e =
    split (same sign.If w) (Some (conjunction ∷ fixed sign.OpenBrace ∷ assignments ∷ fixed sign.CloseBrace ∷ cases ∷ K)) (step K w) (suc (length ws)) (λ next. fault next ws) (Spelled (cases ∷ K) (w ∷ ws))
    (λ b i. cases_more K w ws (same_is sign.If w b) (on (conjunction ∷ fixed sign.OpenBrace ∷ assignments ∷ fixed sign.CloseBrace ∷ cases ∷ K) i))
    (λ b i. ([], w ∷ ws, refl, sound_word K w ws on i))
    e
sound_word (assignments ∷ K) w ws on e =
    split (is_name w) (Some (fixed sign.Dot ∷ name ∷ fixed sign.Assign ∷ term ∷ fixed sign.Semicolon ∷ assignments ∷ K)) (step K w) (suc (length ws)) (λ next. fault next ws) (Spelled (assignments ∷ K) (w ∷ ws))
    (λ b i. assignments_more K w ws (is_name_is w b) (on (fixed sign.Dot ∷ name ∷ fixed sign.Assign ∷ term ∷ fixed sign.Semicolon ∷ assignments ∷ K) i))
    (λ b i. ([], w ∷ ws, refl, sound_word K w ws on i))
    e
sound_word (goals ∷ K) w ws on e =
    split (same sign.Unsafe w) (Some (fixed sign.OpenBrace ∷ rows ∷ fixed sign.When ∷ conjunction ∷ ors ∷ fixed sign.Semicolon ∷ fixed sign.CloseBrace ∷ goals ∷ K)) (step K w) (suc (length ws)) (λ next. fault next ws) (Spelled (goals ∷ K) (w ∷ ws))
    (λ b i. goals_more K w ws (same_is sign.Unsafe w b) (on (fixed sign.OpenBrace ∷ rows ∷ fixed sign.When ∷ conjunction ∷ ors ∷ fixed sign.Semicolon ∷ fixed sign.CloseBrace ∷ goals ∷ K) i))
    (λ b i. ([], w ∷ ws, refl, sound_word K w ws on i))
    e
sound_word (tail ∷ K) w ws on e =
    split (same sign.OpenParen w) (Some (term ∷ fixed sign.CloseParen ∷ K)) (cond (same sign.Dot w) (Some (name ∷ K)) (step K w)) (suc (length ws)) (λ next. fault next ws) (Spelled (tail ∷ K) (w ∷ ws))
    (λ b i. tail_open K w ws (same_is sign.OpenParen w b) (on (term ∷ fixed sign.CloseParen ∷ K) i))
    (λ b i. split (same sign.Dot w) (Some (name ∷ K)) (step K w) (suc (length ws)) (λ next. fault next ws) (Spelled (tail ∷ K) (w ∷ ws))
    (λ b i. tail_dot K w ws (same_is sign.Dot w b) (on (name ∷ K) i))
    (λ b i. (nothing, w ∷ ws, refl, sound_word K w ws on i))
    i)
    e
sound_word (comparison ∷ K) w ws on e =
    split (same sign.Equal w) (Some K) (cond (same sign.NotEqual w) (Some K) None) (suc (length ws)) (λ next. fault next ws) (Spelled (comparison ∷ K) (w ∷ ws))
    (λ b i. comparison_more true K w ws (same_is sign.Equal w b) (on K i))
    (λ b i. split (same sign.NotEqual w) (Some K) (None) (suc (length ws)) (λ next. fault next ws) (Spelled (comparison ∷ K) (w ∷ ws))
    (λ b i. comparison_more false K w ws (same_is sign.NotEqual w b) (on K i))
    (λ b i. no_none (suc (length ws)) _ i)
    i)
    e
sound_word (term ∷ K) w ws on e = term_word K w ws on e
sound_word (conjunction ∷ K) w ws on e =
    split (same sign.True w) (Some K) (base (comparison ∷ term ∷ ands ∷ K) w) (suc (length ws)) (λ next. fault next ws) (Spelled (conjunction ∷ K) (w ∷ ws))
    (λ b i. conjunction_true K w ws (same_is sign.True w b) (on K i))
    (λ b i. conjunction_from_literals K (w ∷ ws) (term_word (comparison ∷ term ∷ ands ∷ K) w ws on i))
    e

sound_end : (K : List Sym) → ended K ≡ None → Spelled K []
sound_end [] e = refl
sound_end (sorts ∷ K) e = ([], [], refl, sound_end K e)
sound_end (functions ∷ K) e = ([], [], refl, sound_end K e)
sound_end (constants ∷ K) e = ([], [], refl, sound_end K e)
sound_end (variables ∷ K) e = ([], [], refl, sound_end K e)
sound_end (initial ∷ K) e = (None, [], refl, sound_end K e)
sound_end (relations ∷ K) e = ([], [], refl, sound_end K e)
sound_end (columns ∷ K) e = ([], [], refl, sound_end K e)
sound_end (steps ∷ K) e = ([], [], refl, sound_end K e)
sound_end (rows ∷ K) e = ([], [], refl, sound_end K e)
sound_end (params ∷ K) e = ([], [], refl, sound_end K e)
sound_end (ands ∷ K) e = ([], [], refl, sound_end K e)
sound_end (ors ∷ K) e = ([], [], refl, sound_end K e)
sound_end (dotted ∷ K) e = (None, [], refl, sound_end K e)
sound_end (updates ∷ K) e = ([], [], refl, sound_end K e)
sound_end (eachs ∷ K) e = ([], [], refl, sound_end K e)
sound_end (cases ∷ K) e = ([], [], refl, sound_end K e)
sound_end (assignments ∷ K) e = ([], [], refl, sound_end K e)
sound_end (goals ∷ K) e = ([], [], refl, sound_end K e)
sound_end (tail ∷ K) e = (nothing, [], refl, sound_end K e)
sound_end (fixed f ∷ K) e = no_none 0 _ e
sound_end (name ∷ K) e = no_none 0 _ e
sound_end (conjunction ∷ K) e = no_none 0 _ e
sound_end (comparison ∷ K) e = no_none 0 _ e
sound_end (term ∷ K) e = no_none 0 _ e

pub sound : (ws : List Word) (K : List Sym) → fault K ws ≡ None → Spelled K ws
sound [] K e = sound_end K e
sound (w ∷ ws) K e = sound_word K w ws (sound ws) e

pub file_sound : (ws : List Word) → fault start ws ≡ None → IsFile ws
file_sound ws e = from_start ws (sound ws start e)
