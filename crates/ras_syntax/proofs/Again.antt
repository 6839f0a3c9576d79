-- What is spelled is read.
use Rattle.std.proofs.Common.{◌≡◌, List, [], ◌∷◌, ◌++◌, Option, Some, None, Bool, true, false, refl, sym, ap, subst, ◌∙◌, append_assoc}
use Rattle.std.specs.List.{flat_map}
use Rattle.std.proofs.lemmas.List.{append-nil}
use Rattle.ras_lexer.specs.declared.fixed.Fixed.{Fixed}
use Rattle.ras_lexer.specs.declared.fixed.Fixed.TheVariants as sign
use Rattle.ras_lexer.specs.declared.token.Word.{Word}
use Rattle.ras_lexer.specs.declared.token.Word.TheVariants as word
use Rattle.ras_syntax.specs.Grammar.{Term, call, cell, plain, undef, term_words, Literal, comparison_sign, literal_words, Conjunction, always, all, and_words, conjunction_words, or_words, guard_words, initial_words, dotted_words, Sort, sort_words, Function, totality_sign, function_words, Constant, constant_words, Variable, variable_words, Column, comma_words, Relation, relation_words, Row, row_words, Param, param_words, Guard, Update, update_words, Assignment, assignment_words, Case, case_words, Each, each_words, Step, step_words, Goal, goal_words, File, file_words, one, Text}
use Rattle.ras_syntax.specs.Machine.{Sym, fixed, conjunction, comparison, term, sorts, functions, constants, variables, initial, relations, columns, steps, rows, params, ands, ors, dotted, updates, eachs, cases, assignments, goals, fault, begins, begins_name, start}
use Rattle.ras_syntax.proofs.Skips.{no_sorts, no_functions, no_constants, no_variables, no_initial, no_relations, no_columns, no_steps, no_rows, no_params, no_ands, no_ors, no_dotted, no_updates, no_eachs, no_cases, no_assignments, no_goals, no_tail, conjunction_is_literal}

-- ---- what may not stand behind a term, a conjunction, a guard and the functions

pub record TermEnds (ws : List Word) : Type 0 where
  pub opens : begins sign.OpenParen ws ≡ false
  pub dot : begins sign.Dot ws ≡ false

pub record ConjunctionEnds (ws : List Word) : Type 0 where
  pub and : begins sign.And ws ≡ false
  pub term : TermEnds ws

pub record GuardEnds (ws : List Word) : Type 0 where
  pub or : begins sign.Or ws ≡ false
  pub conjunction : ConjunctionEnds ws

pub record FunctionsEnd (ws : List Word) : Type 0 where
  pub total : begins sign.Total ws ≡ false
  pub nullable : begins sign.Nullable ws ≡ false

-- ---- repetitions

-- what each item begins with, and what comes behind the list
pub follow : {X : Type 0} (P : List Word → Type 0) (spell : X → List Word) (xs : List X) (ws : List Word) → ((x : X) (rest : List Word) → P (spell x ++ rest)) → P ws → P (flat_map spell xs ++ ws)
follow P spell [] ws first h = h
follow P spell (x ∷ xs) ws first h = subst P (sym (append_assoc (spell x) (flat_map spell xs) ws)) (first x (flat_map spell xs ++ ws))

pub follow_last : {X : Type 0} (P : List Word → Type 0) (spell : X → List Word) (xs : List X) → ((x : X) (rest : List Word) → P (spell x ++ rest)) → P [] → P (flat_map spell xs)
follow_last P spell xs first h = subst P (append-nil (flat_map spell xs)) (follow P spell xs [] first h)

-- Q is asked of what comes behind one item, P of what comes behind the list
many : {X : Type 0} (s : Sym) (spell : X → List Word) (Q P : List Word → Type 0)
    → ((x : X) (rest : List Word) → Q (spell x ++ rest)) → ((ws : List Word) → P ws → Q ws)
    → ((x : X) (K : List Sym) (ws : List Word) → Q ws → fault (s ∷ K) (spell x ++ ws) ≡ fault (s ∷ K) ws)
    → ((K : List Sym) (ws : List Word) → P ws → fault (s ∷ K) ws ≡ fault K ws)
    → (xs : List X) (K : List Sym) (ws : List Word) → P ws → fault (s ∷ K) (flat_map spell xs ++ ws) ≡ fault K ws
many s spell Q P first last item skip [] K ws h = skip K ws h
many s spell Q P first last item skip (x ∷ xs) K ws h =
    ap (fault (s ∷ K)) (append_assoc (spell x) (flat_map spell xs) ws)
    ∙ item x K (flat_map spell xs ++ ws) (follow Q spell xs ws first (last ws h))
    ∙ many s spell Q P first last item skip xs K ws h

abbrev Any : List Word → Type 0
Any ws = Unit {0}

-- ---- formulas

pub term_again : (t : Term) (K : List Sym) (ws : List Word) → TermEnds ws → fault (term ∷ K) (term_words t ++ ws) ≡ fault K ws
term_again (call f t) K ws h =
    ap (fault (term ∷ fixed sign.CloseParen ∷ K)) (append_assoc (term_words t) (one sign.CloseParen) ws)
    ∙ term_again t (fixed sign.CloseParen ∷ K) (word.Fixed sign.CloseParen ∷ ws) (record { opens = refl; dot = refl })
term_again (cell r c) K ws h = refl
term_again (plain n) K ws h = no_tail ws K h.opens h.dot
term_again undef K ws h = refl

comparison_again : (equal : Bool) (K : List Sym) (ws : List Word) → fault (comparison ∷ K) (word.Fixed (comparison_sign equal) ∷ ws) ≡ fault K ws
comparison_again true K ws = refl
comparison_again false K ws = refl

pub comparison_ends : (equal : Bool) (ws : List Word) → TermEnds (word.Fixed (comparison_sign equal) ∷ ws)
comparison_ends true ws = record { opens = refl; dot = refl }
comparison_ends false ws = record { opens = refl; dot = refl }

literal_again : (l : Literal) (K : List Sym) (ws : List Word) → TermEnds ws → fault (term ∷ comparison ∷ term ∷ K) (literal_words l ++ ws) ≡ fault K ws
literal_again l K ws h =
    let behind : List Word = word.Fixed (comparison_sign l.equal) ∷ term_words l.right in
    ap (fault (term ∷ comparison ∷ term ∷ K)) (append_assoc (term_words l.left) behind ws)
    ∙ term_again l.left (comparison ∷ term ∷ K) (behind ++ ws) (comparison_ends l.equal (term_words l.right ++ ws))
    ∙ comparison_again l.equal (term ∷ K) (term_words l.right ++ ws)
    ∙ term_again l.right K ws h

ands_again : (ls : List Literal) (K : List Sym) (ws : List Word) → ConjunctionEnds ws → fault (ands ∷ K) (flat_map and_words ls ++ ws) ≡ fault K ws
ands_again ls K ws h =
    many ands and_words TermEnds ConjunctionEnds (λ l rest. record { opens = refl; dot = refl }) (λ behind i. i.term)
    (λ l J behind i. literal_again l (ands ∷ J) behind i) (λ J behind i. no_ands behind J i.and) ls K ws h

pub term_not_true : (t : Term) (ws : List Word) → begins sign.True (term_words t ++ ws) ≡ false
term_not_true (call f t) ws = refl
term_not_true (cell r c) ws = refl
term_not_true (plain n) ws = refl
term_not_true undef ws = refl

conjunction_again : (c : Conjunction) (K : List Sym) (ws : List Word) → ConjunctionEnds ws → fault (conjunction ∷ K) (conjunction_words c ++ ws) ≡ fault K ws
conjunction_again always K ws h = refl
conjunction_again (all l ls) K ws h =
    let rest : List Word = flat_map and_words ls ++ ws in
    let behind : List Word = word.Fixed (comparison_sign l.equal) ∷ term_words l.right in
    let other : begins sign.True (literal_words l ++ rest) ≡ false = ap (begins sign.True) (append_assoc (term_words l.left) behind rest) ∙ term_not_true l.left (behind ++ rest) in
    ap (fault (conjunction ∷ K)) (append_assoc (literal_words l) (flat_map and_words ls) ws)
    ∙ conjunction_is_literal (literal_words l ++ rest) K other
    ∙ literal_again l (ands ∷ K) rest (follow TermEnds and_words ls ws (λ x more. record { opens = refl; dot = refl }) h.term)
    ∙ ands_again ls K ws h

pub or_ends : (c : Conjunction) (rest : List Word) → ConjunctionEnds (or_words c ++ rest)
or_ends c rest = record { and = refl; term = record { opens = refl; dot = refl } }

ors_again : (cs : List Conjunction) (K : List Sym) (ws : List Word) → GuardEnds ws → fault (ors ∷ K) (flat_map or_words cs ++ ws) ≡ fault K ws
ors_again cs K ws h =
    many ors or_words ConjunctionEnds GuardEnds or_ends (λ behind i. i.conjunction)
    (λ c J behind i. conjunction_again c (ors ∷ J) behind i) (λ J behind i. no_ors behind J i.or) cs K ws h

guard_again : (g : Guard) (K : List Sym) (ws : List Word) → GuardEnds ws → fault (conjunction ∷ ors ∷ K) (guard_words g ++ ws) ≡ fault K ws
guard_again g K ws h =
    ap (fault (conjunction ∷ ors ∷ K)) (append_assoc (conjunction_words g.first) (flat_map or_words g.others) ws)
    ∙ conjunction_again g.first (ors ∷ K) (flat_map or_words g.others ++ ws) (follow ConjunctionEnds or_words g.others ws or_ends h.conjunction)
    ∙ ors_again g.others K ws h

pub semicolon_ends : (ws : List Word) → GuardEnds (word.Fixed sign.Semicolon ∷ ws)
semicolon_ends ws = record { or = refl; conjunction = record { and = refl; term = record { opens = refl; dot = refl } } }

-- ---- declarations

sorts_again : (xs : List Sort) (K : List Sym) (ws : List Word) → begins sign.Sort ws ≡ false → fault (sorts ∷ K) (flat_map sort_words xs ++ ws) ≡ fault K ws
sorts_again xs K ws h = many sorts sort_words Any (λ l. begins sign.Sort l ≡ false) (λ x rest. tt) (λ behind i. tt) (λ x J behind i. refl) (λ J behind i. no_sorts behind J i) xs K ws h

function_again : (total : Bool) (n s t : Text) (K : List Sym) (ws : List Word)
    → fault (functions ∷ K) (function_words (record { total = total; name = n; source = s; target = t }) ++ ws) ≡ fault (functions ∷ K) ws
function_again true n s t K ws = refl
function_again false n s t K ws = refl

functions_again : (xs : List Function) (K : List Sym) (ws : List Word) → FunctionsEnd ws → fault (functions ∷ K) (flat_map function_words xs ++ ws) ≡ fault K ws
functions_again xs K ws h =
    many functions function_words Any FunctionsEnd (λ x rest. tt) (λ behind i. tt) (λ x J behind i. function_again x.total x.name x.source x.target J behind)
    (λ J behind i. no_functions behind J i.total i.nullable) xs K ws h

constants_again : (xs : List Constant) (K : List Sym) (ws : List Word) → begins sign.Const ws ≡ false → fault (constants ∷ K) (flat_map constant_words xs ++ ws) ≡ fault K ws
constants_again xs K ws h = many constants constant_words Any (λ l. begins sign.Const l ≡ false) (λ x rest. tt) (λ behind i. tt) (λ x J behind i. refl) (λ J behind i. no_constants behind J i) xs K ws h

initial_again : (i : Option Text) (K : List Sym) (ws : List Word) → begins sign.Equal ws ≡ false → fault (initial ∷ K) (initial_words i ++ ws) ≡ fault K ws
initial_again None K ws h = no_initial ws K h
initial_again (Some n) K ws h = refl

variable_again : (v : Variable) (K : List Sym) (ws : List Word) → fault (variables ∷ K) (variable_words v ++ ws) ≡ fault (variables ∷ K) ws
variable_again v K ws =
    ap (fault (initial ∷ fixed sign.Semicolon ∷ variables ∷ K)) (append_assoc (initial_words v.initial) (one sign.Semicolon) ws)
    ∙ initial_again v.initial (fixed sign.Semicolon ∷ variables ∷ K) (word.Fixed sign.Semicolon ∷ ws) refl

variables_again : (xs : List Variable) (K : List Sym) (ws : List Word) → begins sign.Var ws ≡ false → fault (variables ∷ K) (flat_map variable_words xs ++ ws) ≡ fault K ws
variables_again xs K ws h = many variables variable_words Any (λ l. begins sign.Var l ≡ false) (λ x rest. tt) (λ behind i. tt) (λ x J behind i. variable_again x J behind) (λ J behind i. no_variables behind J i) xs K ws h

columns_again : (xs : List Column) (K : List Sym) (ws : List Word) → begins sign.Comma ws ≡ false → fault (columns ∷ K) (flat_map comma_words xs ++ ws) ≡ fault K ws
columns_again xs K ws h = many columns comma_words Any (λ l. begins sign.Comma l ≡ false) (λ x rest. tt) (λ behind i. tt) (λ x J behind i. refl) (λ J behind i. no_columns behind J i) xs K ws h

relation_again : (r : Relation) (K : List Sym) (ws : List Word) → fault (relations ∷ K) (relation_words r ++ ws) ≡ fault (relations ∷ K) ws
relation_again r K ws =
    let close : List Word = word.Fixed sign.CloseParen ∷ one sign.Semicolon in
    let done : List Sym = fixed sign.CloseParen ∷ fixed sign.Semicolon ∷ relations ∷ K in
    ap (fault (columns ∷ done)) (append_assoc (flat_map comma_words r.others) close ws)
    ∙ columns_again r.others done (close ++ ws) refl

relations_again : (xs : List Relation) (K : List Sym) (ws : List Word) → begins sign.Relation ws ≡ false → fault (relations ∷ K) (flat_map relation_words xs ++ ws) ≡ fault K ws
relations_again xs K ws h = many relations relation_words Any (λ l. begins sign.Relation l ≡ false) (λ x rest. tt) (λ behind i. tt) (λ x J behind i. relation_again x J behind) (λ J behind i. no_relations behind J i) xs K ws h

-- ---- steps and unsafe items

rows_again : (xs : List Row) (K : List Sym) (ws : List Word) → begins sign.Row ws ≡ false → fault (rows ∷ K) (flat_map row_words xs ++ ws) ≡ fault K ws
rows_again xs K ws h = many rows row_words Any (λ l. begins sign.Row l ≡ false) (λ x rest. tt) (λ behind i. tt) (λ x J behind i. refl) (λ J behind i. no_rows behind J i) xs K ws h

params_again : (xs : List Param) (K : List Sym) (ws : List Word) → begins sign.Param ws ≡ false → fault (params ∷ K) (flat_map param_words xs ++ ws) ≡ fault K ws
params_again xs K ws h = many params param_words Any (λ l. begins sign.Param l ≡ false) (λ x rest. tt) (λ behind i. tt) (λ x J behind i. refl) (λ J behind i. no_params behind J i) xs K ws h

dotted_again : (c : Option Text) (K : List Sym) (ws : List Word) → begins sign.Dot ws ≡ false → fault (dotted ∷ K) (dotted_words c ++ ws) ≡ fault K ws
dotted_again None K ws h = no_dotted ws K h
dotted_again (Some n) K ws h = refl

-- the rest of an update or an assignment
written_again : (t : Term) (K : List Sym) (ws : List Word) → fault (term ∷ fixed sign.Semicolon ∷ K) ((term_words t ++ one sign.Semicolon) ++ ws) ≡ fault K ws
written_again t K ws =
    ap (fault (term ∷ fixed sign.Semicolon ∷ K)) (append_assoc (term_words t) (one sign.Semicolon) ws)
    ∙ term_again t (fixed sign.Semicolon ∷ K) (word.Fixed sign.Semicolon ∷ ws) (record { opens = refl; dot = refl })

update_again : (u : Update) (K : List Sym) (ws : List Word) → fault (updates ∷ K) (update_words u ++ ws) ≡ fault (updates ∷ K) ws
update_again u K ws =
    let behind : List Word = word.Fixed sign.Assign ∷ (term_words u.term ++ one sign.Semicolon) in
    let next : List Sym = fixed sign.Assign ∷ term ∷ fixed sign.Semicolon ∷ updates ∷ K in
    ap (fault (dotted ∷ next)) (append_assoc (dotted_words u.column) behind ws)
    ∙ dotted_again u.column next (behind ++ ws) refl
    ∙ written_again u.term (updates ∷ K) ws

updates_again : (xs : List Update) (K : List Sym) (ws : List Word) → begins_name ws ≡ false → fault (updates ∷ K) (flat_map update_words xs ++ ws) ≡ fault K ws
updates_again xs K ws h = many updates update_words Any (λ l. begins_name l ≡ false) (λ x rest. tt) (λ behind i. tt) (λ x J behind i. update_again x J behind) (λ J behind i. no_updates behind J i) xs K ws h

assignments_again : (xs : List Assignment) (K : List Sym) (ws : List Word) → begins_name ws ≡ false → fault (assignments ∷ K) (flat_map assignment_words xs ++ ws) ≡ fault K ws
assignments_again xs K ws h = many assignments assignment_words Any (λ l. begins_name l ≡ false) (λ x rest. tt) (λ behind i. tt) (λ x J behind i. written_again x.term (assignments ∷ J) behind) (λ J behind i. no_assignments behind J i) xs K ws h

-- a case behind its "if"
abbrev case_rest : Case → List Word
case_rest c = conjunction_words c.condition ++ (word.Fixed sign.OpenBrace ∷ (flat_map assignment_words c.assignments ++ one sign.CloseBrace))

case_again : (c : Case) (K : List Sym) (ws : List Word) → fault (conjunction ∷ fixed sign.OpenBrace ∷ assignments ∷ fixed sign.CloseBrace ∷ K) (case_rest c ++ ws) ≡ fault K ws
case_again c K ws =
    let inside : List Word = flat_map assignment_words c.assignments ++ one sign.CloseBrace in
    let done : List Sym = fixed sign.CloseBrace ∷ K in
    ap (fault (conjunction ∷ fixed sign.OpenBrace ∷ assignments ∷ done)) (append_assoc (conjunction_words c.condition) (word.Fixed sign.OpenBrace ∷ inside) ws)
    ∙ conjunction_again c.condition (fixed sign.OpenBrace ∷ assignments ∷ done) (word.Fixed sign.OpenBrace ∷ (inside ++ ws)) (record { and = refl; term = record { opens = refl; dot = refl } })
    ∙ ap (fault (assignments ∷ done)) (append_assoc (flat_map assignment_words c.assignments) (one sign.CloseBrace) ws)
    ∙ assignments_again c.assignments done (word.Fixed sign.CloseBrace ∷ ws) refl

cases_again : (xs : List Case) (K : List Sym) (ws : List Word) → begins sign.If ws ≡ false → fault (cases ∷ K) (flat_map case_words xs ++ ws) ≡ fault K ws
cases_again xs K ws h = many cases case_words Any (λ l. begins sign.If l ≡ false) (λ x rest. tt) (λ behind i. tt) (λ x J behind i. case_again x (cases ∷ J) behind) (λ J behind i. no_cases behind J i) xs K ws h

each_again : (e : Each) (K : List Sym) (ws : List Word) → fault (eachs ∷ K) (each_words e ++ ws) ≡ fault (eachs ∷ K) ws
each_again e K ws =
    let others : List Word = flat_map case_words e.others ++ one sign.CloseBrace in
    let done : List Sym = fixed sign.CloseBrace ∷ eachs ∷ K in
    ap (fault (conjunction ∷ fixed sign.OpenBrace ∷ assignments ∷ fixed sign.CloseBrace ∷ cases ∷ done)) (append_assoc (case_rest e.first) others ws)
    ∙ case_again e.first (cases ∷ done) (others ++ ws)
    ∙ ap (fault (cases ∷ done)) (append_assoc (flat_map case_words e.others) (one sign.CloseBrace) ws)
    ∙ cases_again e.others done (word.Fixed sign.CloseBrace ∷ ws) refl

eachs_again : (xs : List Each) (K : List Sym) (ws : List Word) → begins sign.Each ws ≡ false → fault (eachs ∷ K) (flat_map each_words xs ++ ws) ≡ fault K ws
eachs_again xs K ws h = many eachs each_words Any (λ l. begins sign.Each l ≡ false) (λ x rest. tt) (λ behind i. tt) (λ x J behind i. each_again x J behind) (λ J behind i. no_eachs behind J i) xs K ws h

pub step_regrouped : (a b g u e : List Word) (w s c : Word) (ws : List Word)
    → (a ++ (b ++ (w ∷ (g ++ (s ∷ (u ++ (e ++ (c ∷ [])))))))) ++ ws ≡ a ++ (b ++ (w ∷ (g ++ (s ∷ (u ++ (e ++ (c ∷ ws)))))))
step_regrouped a b g u e w s c ws = simp append_assoc

step_again : (s : Step) (K : List Sym) (ws : List Word) → fault (steps ∷ K) (step_words s ++ ws) ≡ fault (steps ∷ K) ws
step_again s K ws =
    let done : List Sym = fixed sign.CloseBrace ∷ steps ∷ K in
    let acts : List Sym = updates ∷ eachs ∷ done in
    let when : List Sym = fixed sign.When ∷ conjunction ∷ ors ∷ fixed sign.Semicolon ∷ acts in
    let close : List Word = word.Fixed sign.CloseBrace ∷ ws in
    let effects : List Word = flat_map update_words s.updates ++ (flat_map each_words s.eachs ++ close) in
    let guarded : List Word = word.Fixed sign.When ∷ (guard_words s.guard ++ (word.Fixed sign.Semicolon ∷ effects)) in
    ap (fault (rows ∷ params ∷ when)) (step_regrouped (flat_map row_words s.rows) (flat_map param_words s.params) (guard_words s.guard) (flat_map update_words s.updates) (flat_map each_words s.eachs)
    (word.Fixed sign.When) (word.Fixed sign.Semicolon) (word.Fixed sign.CloseBrace) ws)
    ∙ rows_again s.rows (params ∷ when) (flat_map param_words s.params ++ guarded) (follow (λ l. begins sign.Row l ≡ false) param_words s.params guarded (λ x rest. refl) refl)
    ∙ params_again s.params when guarded refl
    ∙ guard_again s.guard (fixed sign.Semicolon ∷ acts) (word.Fixed sign.Semicolon ∷ effects) (semicolon_ends effects)
    ∙ updates_again s.updates (eachs ∷ done) (flat_map each_words s.eachs ++ close) (follow (λ l. begins_name l ≡ false) each_words s.eachs close (λ x rest. refl) refl)
    ∙ eachs_again s.eachs done close refl

steps_again : (xs : List Step) (K : List Sym) (ws : List Word) → begins sign.Step ws ≡ false → fault (steps ∷ K) (flat_map step_words xs ++ ws) ≡ fault K ws
steps_again xs K ws h = many steps step_words Any (λ l. begins sign.Step l ≡ false) (λ x rest. tt) (λ behind i. tt) (λ x J behind i. step_again x J behind) (λ J behind i. no_steps behind J i) xs K ws h

goal_again : (g : Goal) (K : List Sym) (ws : List Word) → fault (goals ∷ K) (goal_words g ++ ws) ≡ fault (goals ∷ K) ws
goal_again g K ws =
    let close : List Word = word.Fixed sign.Semicolon ∷ one sign.CloseBrace in
    let done : List Sym = fixed sign.Semicolon ∷ fixed sign.CloseBrace ∷ goals ∷ K in
    let when : List Word = word.Fixed sign.When ∷ (guard_words g.guard ++ close) in
    ap (fault (rows ∷ fixed sign.When ∷ conjunction ∷ ors ∷ done)) (append_assoc (flat_map row_words g.rows) when ws)
    ∙ rows_again g.rows (fixed sign.When ∷ conjunction ∷ ors ∷ done) (when ++ ws) refl
    ∙ ap (fault (conjunction ∷ ors ∷ done)) (append_assoc (guard_words g.guard) close ws)
    ∙ guard_again g.guard done (close ++ ws) (semicolon_ends (word.Fixed sign.CloseBrace ∷ ws))

goals_again : (xs : List Goal) (K : List Sym) (ws : List Word) → begins sign.Unsafe ws ≡ false → fault (goals ∷ K) (flat_map goal_words xs ++ ws) ≡ fault K ws
goals_again xs K ws h = many goals goal_words Any (λ l. begins sign.Unsafe l ≡ false) (λ x rest. tt) (λ behind i. tt) (λ x J behind i. goal_again x J behind) (λ J behind i. no_goals behind J i) xs K ws h

-- ---- the file

function_no_sort : (f : Function) (rest : List Word) → begins sign.Sort (function_words f ++ rest) ≡ false
function_no_sort f rest = elim f.total as (λ b. begins sign.Sort (word.Fixed (totality_sign b) ∷ []) ≡ false) [ true ↦ refl | false ↦ refl ]

-- the words from a kind of item on
abbrev pub from_goals : File → List Word
from_goals f = flat_map goal_words f.goals

abbrev pub from_steps : File → List Word
from_steps f = flat_map step_words f.steps ++ from_goals f

abbrev pub from_relations : File → List Word
from_relations f = flat_map relation_words f.relations ++ from_steps f

abbrev pub from_variables : File → List Word
from_variables f = flat_map variable_words f.variables ++ from_relations f

abbrev pub from_constants : File → List Word
from_constants f = flat_map constant_words f.constants ++ from_variables f

abbrev pub from_functions : File → List Word
from_functions f = flat_map function_words f.functions ++ from_constants f

-- no kind of item goes on in those behind it
pub record IsFree (f : File) : Type 0 where
  pub sort : begins sign.Sort (from_functions f) ≡ false
  pub function : FunctionsEnd (from_constants f)
  pub constant : begins sign.Const (from_variables f) ≡ false
  pub variable : begins sign.Var (from_relations f) ≡ false
  pub relation : begins sign.Relation (from_steps f) ≡ false
  pub step : begins sign.Step (from_goals f) ≡ false

-- what begins no item of these kinds does not begin their words
goals_free : (s : Fixed) (f : File) → ((x : Goal) (rest : List Word) → begins s (goal_words x ++ rest) ≡ false) → begins s (from_goals f) ≡ false
goals_free s f g = follow_last (λ l. begins s l ≡ false) goal_words f.goals g refl

relations_free : (s : Fixed) (f : File) → ((x : Relation) (rest : List Word) → begins s (relation_words x ++ rest) ≡ false) → ((x : Step) (rest : List Word) → begins s (step_words x ++ rest) ≡ false)
    → ((x : Goal) (rest : List Word) → begins s (goal_words x ++ rest) ≡ false) → begins s (from_relations f) ≡ false
relations_free s f r t g =
    follow (λ l. begins s l ≡ false) relation_words f.relations (from_steps f) r (follow (λ l. begins s l ≡ false) step_words f.steps (from_goals f) t (goals_free s f g))

constants_free : (s : Fixed) (f : File) → ((x : Constant) (rest : List Word) → begins s (constant_words x ++ rest) ≡ false) → ((x : Variable) (rest : List Word) → begins s (variable_words x ++ rest) ≡ false)
    → begins s (from_relations f) ≡ false → begins s (from_constants f) ≡ false
constants_free s f c v h =
    follow (λ l. begins s l ≡ false) constant_words f.constants (from_variables f) c (follow (λ l. begins s l ≡ false) variable_words f.variables (from_relations f) v h)

pub free : (f : File) → IsFree f
free f = record {
  sort = follow (λ l. begins sign.Sort l ≡ false) function_words f.functions (from_constants f) function_no_sort
      (constants_free sign.Sort f (λ x rest. refl) (λ x rest. refl) (relations_free sign.Sort f (λ x rest. refl) (λ x rest. refl) (λ x rest. refl)));
  function = record {
    total = constants_free sign.Total f (λ x rest. refl) (λ x rest. refl) (relations_free sign.Total f (λ x rest. refl) (λ x rest. refl) (λ x rest. refl));
    nullable = constants_free sign.Nullable f (λ x rest. refl) (λ x rest. refl) (relations_free sign.Nullable f (λ x rest. refl) (λ x rest. refl) (λ x rest. refl));
  };
  constant = follow (λ l. begins sign.Const l ≡ false) variable_words f.variables (from_relations f) (λ x rest. refl) (relations_free sign.Const f (λ x rest. refl) (λ x rest. refl) (λ x rest. refl));
  variable = relations_free sign.Var f (λ x rest. refl) (λ x rest. refl) (λ x rest. refl);
  relation = follow (λ l. begins sign.Relation l ≡ false) step_words f.steps (from_goals f) (λ x rest. refl) (goals_free sign.Relation f (λ x rest. refl));
  step = goals_free sign.Step f (λ x rest. refl);
}

pub file_again : (f : File) → fault start (file_words f) ≡ None
file_again f =
    let h = free f in
    sorts_again f.sorts (functions ∷ constants ∷ variables ∷ relations ∷ steps ∷ goals ∷ []) (from_functions f) h.sort
    ∙ functions_again f.functions (constants ∷ variables ∷ relations ∷ steps ∷ goals ∷ []) (from_constants f) h.function
    ∙ constants_again f.constants (variables ∷ relations ∷ steps ∷ goals ∷ []) (from_variables f) h.constant
    ∙ variables_again f.variables (relations ∷ steps ∷ goals ∷ []) (from_relations f) h.variable
    ∙ relations_again f.relations (steps ∷ goals ∷ []) (from_steps f) h.relation
    ∙ steps_again f.steps (goals ∷ []) (from_goals f) h.step
    ∙ ap (fault (goals ∷ [])) (sym (append-nil (from_goals f)))
    ∙ goals_again f.goals [] [] refl
